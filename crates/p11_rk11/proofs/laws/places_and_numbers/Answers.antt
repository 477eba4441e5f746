use Rattle.p11_rk11.proofs.Places.{number_then_place, place_then_number, place_on_disk, next_number}
use Rattle.p11_rk11.proofs.laws.places_and_numbers.Goals as goal

pub returns-clause-place : goal.returns-clause-place
returns-clause-place c = number_then_place

pub returns-clause-number : goal.returns-clause-number
returns-clause-number c = place_then_number

pub returns-clause-on_disk : goal.returns-clause-on_disk
returns-clause-on_disk c = place_on_disk

pub returns-clause-next : goal.returns-clause-next
returns-clause-next c = next_number
