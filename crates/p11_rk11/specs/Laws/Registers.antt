-- What the laws of the controller speak of.
use Rattle.std.specs.Prelude.{◌≡◌, ◌/◌, ◌%◌, true, not, ◌==◌, is_some}
use Rattle.p11_rk11.specs.declared.registers.Registers.{Registers}
use Rattle.p11_words.specs.Bits.{bit_of}
use Rattle.p11_rk11.specs.Functions.{function_number}
use Rattle.p11_rk11.specs.Calls.Places.{is_on_disk}
use Rattle.p11_rk11.specs.Registers.{control_word, is_ready}
use Rattle.p11_rk11.specs.State.{Rk11State, selected}

-- RKCS shows each of its parts at its place, and 0 at 0, 9 and 12.
pub record ShowsItsBits (r : Registers) : Type 0 where
  pub function : control_word r / 2 % 8 ≡ function_number r.function
  pub extension : control_word r / 0o20 % 4 ≡ r.bus_address / 0o200000
  pub enable : bit_of (control_word r) 0o100 ≡ r.enable
  pub ready : bit_of (control_word r) 0o200 ≡ is_ready r
  pub stop_on_soft_error : bit_of (control_word r) 0o400 ≡ r.stop_on_soft_error
  pub format : bit_of (control_word r) 0o2000 ≡ r.format
  pub inhibit_increment : bit_of (control_word r) 0o4000 ≡ r.inhibit_increment
  pub zeros : (control_word r % 2 ≡ 0) × (control_word r / 0o1000 % 2 ≡ 0) × (control_word r / 0o10000 % 2 ≡ 0)
  pub search_complete : bit_of (control_word r) 0o20000 ≡ r.search_complete
  pub hard_error : bit_of (control_word r) 0o40000 ≡ not (r.errors / 2 == 0)
  pub error : bit_of (control_word r) 0o100000 ≡ not (r.errors == 0)

-- What is true of every controller: a running transfer is on a mounted drive, and at a place on its pack.
abbrev pub TransferHasPlace : Rk11State → Type 0
TransferHasPlace s =
    is_some s.registers.transfer ≡ true → (is_on_disk s.registers.disk_address ≡ true) × (is_some (selected s) ≡ true)
