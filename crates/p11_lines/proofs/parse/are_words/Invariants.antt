use Rattle.std.proofs.Common.{◌≡◌, length}
use Rattle.std.specs.Option.{is_some}
use Rattle.p11_lines.specs.Grammar.{words_of, all_words_from}
use Rattle.p11_lines.proofs.parse.are_words.Given as goal

abbrev pub invariant-loop-first : goal.invariant-loop-first
invariant-loop-first l = is_some (all_words_from (words_of l.rest)) ≡ is_some (all_words_from (words_of l.fn.args))

abbrev pub decreases-loop-first : goal.decreases-loop-first
decreases-loop-first l = length l.rest
