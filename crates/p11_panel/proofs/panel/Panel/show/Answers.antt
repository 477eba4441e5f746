use Rattle.std.proofs.Common.{◌≡◌, List, ℕ, sym, subst, arith}
use Rattle.p11_cpu.specs.Operator.{examine_of}
use Rattle.p11_panel.specs.Ranges.{reads_at}
use Rattle.p11_panel.proofs.ExamineLemmas.{examines_one, examines_more}
use Rattle.p11_panel.proofs.panel.Panel.show.Goals as goal

pub returns-then-count-eq1 : goal.returns-then-count-eq1
returns-then-count-eq1 g c =
    let read : examine_of c.args.address c.args.self.now ≡ (c.examine-word.new.self.visible, c.examine-word.result) = rw (← c.self.view_is) c.examine-word.ensures.state in
    examines_one c.args.address c.args.count c.examine-word.result c.args.self.now c.examine-word.new.self.visible c.if-count-eq1.true c.requires.fault read

pub returns-in-Ok : goal.returns-in-Ok
returns-in-Ok g c =
    examines_more c.args.address c.args.count c.from_vec.result c.args.self.now c.words_at.new.self (omega (arith, c.requires.some, c.if-count-eq1.false)) c.requires.fault
    (subst (λ (t : List ℕ). reads_at c.args.address c.args.count c.args.self.now ≡ (c.words_at.new.self, t)) (sym c.from_vec.ensures) c.in-Ok.ensures.ok)
