use Rattle.std.proofs.Common.{refl}
use Rattle.p11_panel.proofs.LoadLemmas.{fits_at, fits_behind, one_put, two_put}
use Rattle.p11_panel.proofs.panel.Panel.put_first.Goals as goal

pub put_bytes-requires-clause-held : goal.put_bytes-requires-clause-held
put_bytes-requires-clause-held g c = fits_at _ _ _ _ c.requires.some c.requires.fit

pub returns-then-is_word-clause-state : goal.returns-then-is_word-clause-state
returns-then-is_word-clause-state g c = two_put _ _ _ c.in-len2-up.len_at_least (c.if-is_word.ensures.next refl) c.put_bytes.ensures.state

pub returns-then-is_word-clause-fit : goal.returns-then-is_word-clause-fit
returns-then-is_word-clause-fit g c = fits_behind 2 _ _ _ c.requires.fit c.put_bytes.ensures.holds

pub put_byte-requires : goal.put_byte-requires
put_byte-requires g c = fits_at _ _ _ _ c.requires.some c.requires.fit

pub returns-clause-state : goal.returns-clause-state
returns-clause-state g c = one_put _ _ _ c.requires.some c.put_byte.ensures.state

pub returns-clause-fit : goal.returns-clause-fit
returns-clause-fit g c = fits_behind 1 _ _ _ c.requires.fit c.put_byte.ensures.holds
