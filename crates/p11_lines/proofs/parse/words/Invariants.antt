use Rattle.std.proofs.Common.{◌≡◌, length}
use Rattle.p11_lines.specs.Grammar.{words_of, all_words_from}
use Rattle.p11_lines.proofs.Lists.{found_before}
use Rattle.p11_lines.proofs.parse.words.Given as goal

abbrev pub invariant-loop-first : goal.invariant-loop-first
invariant-loop-first g l = found_before l.words.items (all_words_from (words_of l.rest)) ≡ all_words_from (words_of l.fn.args)

abbrev pub decreases-loop-first : goal.decreases-loop-first
decreases-loop-first g l = length l.rest
