-- Places behind the last byte of a kind.
use Rattle.std.proofs.Common.{◌≡◌, ℕ, suc, Bool, true, false, List, slice_index, refl}
use Rattle.p11_line_editor.specs.Line.{behind_last}

-- behind a byte that passes the test
pub behind_here : (test : ℕ → Bool) (text : List ℕ) (place before : ℕ) → place ≡ suc before → test (slice_index text before) ≡ true → behind_last test text place ≡ place
behind_here test text place before next passes = rw next (rw passes refl)

-- behind one that doesn't
pub behind_down : (test : ℕ → Bool) (text : List ℕ) (place before : ℕ) → place ≡ suc before → test (slice_index text before) ≡ false → behind_last test text before ≡ behind_last test text place
behind_down test text place before next fails = rw next (rw fails refl)
