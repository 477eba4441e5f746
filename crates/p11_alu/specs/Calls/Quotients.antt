-- What a quotient is.
use Rattle.std.specs.Prelude.{◌≡◌, ◌<◌, ◌⊎◌, ℤ, pos, ◌+ℤ◌, ◌*ℤ◌, int_lt, unsigned_abs}

-- q and r are the quotient and the remainder of a by d: q times d and r make a, r is nearer to 0
-- than d, and r is 0 or has the sign of a.
pub record IsQuotient (a d q r : ℤ) : Type 0 where
  pub whole : q *ℤ d +ℤ r ≡ a
  pub small : unsigned_abs r < unsigned_abs d
  pub sign : (r ≡ pos 0) ⊎ (int_lt r (pos 0) ≡ int_lt a (pos 0))
