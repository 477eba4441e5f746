-- What the two status registers have in common: a flag in bit 7, which asks for attention, and the interrupt enable in
-- bit 6. Other bits read as 0, and a write takes bit 6 alone.
use Rattle.std.specs.Prelude.{ℕ, ◌+◌, Bool, ◌&&◌, ◌||◌, not}
use Rattle.p11_words.specs.Bits.{flag}

-- the word of a section's status register: done or ready, and the enable
abbrev pub section_word : (attention enable : Bool) → ℕ
section_word attention enable = flag attention 0o200 + flag enable 0o100

-- The request after a write of the enable, from the request and the enable before it and done or ready. While
-- interrupts are disabled there is no request, and one is raised where enable rises while done or ready is 1.
abbrev pub request_after_enable : (request was_enabled attention enable : Bool) → Bool
request_after_enable request was_enabled attention enable = enable && (request || (attention && not was_enabled))
