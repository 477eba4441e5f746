-- What the bytes that are left of a tape begin with.
use Rattle.std.specs.Prelude.{◌≡◌, ◌≢◌, ℕ, ◌+◌, ◌-◌, ◌^◌, ◌<◌, ◌≤◌, List, ◌++◌, length, replicate, slice_index, take, drop, None}
use Rattle.p11_tape.specs.Fault.{count_at, address_at, wrong_of}

-- They don't begin with a zero.
abbrev pub NoZeroFirst : List ℕ → Type 0
NoZeroFirst bytes = 0 < length bytes → slice_index bytes 0 ≢ 0

-- They are zeros, as many as there are, and then the rest.
pub record BeginsWithZeros (bytes rest : List ℕ) : Type 0 where
  pub zeros : ℕ
  pub splits : bytes ≡ replicate zeros 0 ++ rest
  pub all : NoZeroFirst rest

-- They begin with 001, 000 and a count that covers a header, and have what the count covers and a checksum.
pub record IsWhole (bytes : List ℕ) : Type 0 where
  pub first : slice_index bytes 0 ≡ 1
  pub second : slice_index bytes 1 ≡ 0
  pub header : 6 ≤ count_at bytes
  pub whole : count_at bytes < length bytes

-- They begin with a block that has nothing wrong, with this address and this data, and then what is after it.
pub record BeginsWith (bytes : List ℕ) (address : ℕ) (content after : List ℕ) : Type 0 where
  pub is_whole : IsWhole bytes
  pub right : (at : ℕ) → wrong_of at bytes ≡ None
  pub address_is : address ≡ address_at bytes
  pub content_is : content ≡ take (count_at bytes - 6) (drop 6 bytes)
  pub within : address + length content ≤ 2 ^ 16
  pub after_is : after ≡ drop (count_at bytes + 1) bytes
