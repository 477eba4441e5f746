-- The bytes begin with a block: what is whole, goes no further than memory and sums to 0 has nothing wrong.
use Rattle.std.proofs.Common.{◌≡◌, ◌+◌, ◌-◌, ◌%◌, ◌^◌, ◌≤◌, sum, take, drop, length, arith, sym, ap, ◌∙◌}
use Rattle.std.proofs.lemmas.List.{take_rest, length-take-le, length-drop}
use Rattle.p11_tape.specs.Fault.{address_at, count_at}
use Rattle.p11_tape.proofs.BlockLemmas.{wrong_none}
use Rattle.p11_tape.proofs.block.next_block.Goals as goal

pub returns-clause-ok : goal.returns-clause-ok
unfolding address_at
returns-clause-ok c =
    let bytes = c.args.rest.now in
    let n = c.in_ok-count.count in
    let found = c.in_ok-count.ensures.ok in
    let header = found.0.header in
    let whole = found.0.whole in
    let within : address_at bytes + (count_at bytes - 6) ≤ 2 ^ 16 = omega arith in
    let zero_sum : sum (take (count_at bytes + 1) bytes) % 2 ^ 8 ≡ 0 = rw (← found.1) (sym c.sum_of.ensures ∙ c.if-sum_of-ne0.false) in
    let content_length : length (take (n - 6) (drop 6 bytes)) ≡ n - 6 = length-take-le (n - 6) (drop 6 bytes) (omega (arith, length-drop 6 bytes, found.1)) in
    record {
      is_whole = found.0;
      right = λ at. wrong_none at bytes found.0 within zero_sum;
      address_is = c.word-address.ensures;
      content_is = ap (λ k. take (k - 6) (drop 6 bytes)) found.1;
      within = omega (arith, found.1, c.word-address.ensures);
      after_is = take_rest bytes (n + 1) ∙ ap (λ k. drop (k + 1) bytes) found.1;
    }
