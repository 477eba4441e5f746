use Rattle.std.proofs.Common.{◌∙◌, refl}
use Rattle.p11_rk11.proofs.Runs.{run_length, run_loaded, run_within}
use Rattle.p11_rk11.proofs.sector.Span.load_run.Goals as goal

pub run-requires-clause-held : goal.run-requires-clause-held
run-requires-clause-held g c =
    rw c.all.ensures.value
    (run_within c.args.self.start c.args.self.count c.args.self.stays _ c.requires.stays (rw c.all.ensures.value at c.all.ensures.even) c.requires.some c.requires.ends c.requires.held)

pub copy_from_slice-requires : goal.copy_from_slice-requires
copy_from_slice-requires g c =
    run_length c.args.self.start c.args.self.count _ _ _ refl c.requires.count
    (run_within c.args.self.start c.args.self.count c.args.self.stays _ c.requires.stays (rw c.all.ensures.value at c.all.ensures.even) c.requires.some c.requires.ends c.requires.held)
    (rw c.all.ensures.value at c.run.ensures)

pub returns : goal.returns
returns g c =
    run_loaded c.args.self.start c.args.self.count c.args.self.stays _ _ _ c.requires.stays (rw c.all.ensures.value at c.all.ensures.even) c.requires.ends
    (run_within c.args.self.start c.args.self.count c.args.self.stays _ c.requires.stays (rw c.all.ensures.value at c.all.ensures.even) c.requires.some c.requires.ends c.requires.held)
    (c.copy_from_slice.ensures.after ∙ rw c.all.ensures.value at c.run.ensures) refl
