use Rattle.std.proofs.Common.{◌∙◌}
use Rattle.std.proofs.lemmas.List.{length-set}
use Rattle.p11_tape.proofs.ReadLemmas.{pairs_more}
use Rattle.p11_tape.proofs.tape.put_pairs.Goals as goal

pub loop-i-preserved : goal.loop-i-preserved
loop-i-preserved c =
    record {
      room = length-set c.loop-i.places c.loop-i.i _ ∙ c.loop-i.invariant.room;
      put = pairs_more c.args.address c.loop-i.i c.args.bytes.now c.loop-i.places c.loop-i-test.true c.loop-i.invariant.room c.loop-i.invariant.put;
    }
