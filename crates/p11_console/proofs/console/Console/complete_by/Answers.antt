use Rattle.std.proofs.Common.{map}
use Rattle.p11_console.proofs.WordsCompleted.{completes}
use Rattle.p11_console.proofs.console.Console.complete_by.Goals as goal

pub returns : goal.returns
returns g c =
    rw (← c.self.view_is)
    (completes (map (λ word. word.now) c.args.words.now) _ _ _ c.complete-outcome.ensures c.show_completed.ensures.0 c.show_completed.ensures.1)
