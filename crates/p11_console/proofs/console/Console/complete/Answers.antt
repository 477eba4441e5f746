use Rattle.std.proofs.Common.{[], inl, refl}
use Rattle.p11_console.specs.Steps.{Completes}
use Rattle.p11_console.proofs.console.Console.complete.Goals as goal

-- without memory for words there are none, which changes no line
pub returns-in-Err : goal.returns-in-Err
unfolding Completes
returns-in-Err g c = rw (← c.self.view_is) ([], inl refl, c.say.ensures, refl)
