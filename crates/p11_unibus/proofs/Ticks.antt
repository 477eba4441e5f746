-- A tick of the line clock that interrupts in its own turn: the acts of the turn, and the grant.
use Rattle.std.proofs.Common.{◌≡◌, ◌∙◌, ℕ, Bool, true, false, ◌&&◌, ◌||◌, Option, Some, refl, ap, sym}
use Rattle.std.specs.Prelude.{nat_lt}
use Rattle.p11_psw.specs.Fields.{priority_number}
use Rattle.p11_psw.specs.declared.priority.Priority.{Priority}
use Rattle.p11_psw.specs.declared.priority.Priority.TheVariants.{Level6}
use Rattle.p11_psw.specs.declared.vector.Vector.{Vector}
use Rattle.p11_psw.specs.declared.vector.Vector.TheVariants as vectors
use Rattle.p11_words.specs.DueTurns.{is_due}
use Rattle.p11_kw11.specs.LineClock.{LineClock, clock_after_tick, clock_after_turn}
use Rattle.p11_unibus.specs.Acts.{bus_after_clock, bus_after_turn}
use Rattle.p11_unibus.specs.Kept.Due.{comes_before, nearest_but_clock}
use Rattle.p11_unibus.specs.Kept.Ticks.{ticks_through}
use Rattle.p11_unibus.specs.Requests.{bus_after_service, grant_of, granted, highest_request}
use Rattle.p11_unibus.specs.declared.source.Source.TheVariants.{Clock}
use Rattle.p11_unibus.specs.State.{BusState}
use Rattle.p11_unibus.proofs.DueLemmas.{no_other_change_yet}

both : (p q : Bool) → (p && q) ≡ true → (p ≡ true) × (q ≡ true)
both true q e = (refl, e)
both false q e = cc e

either : (p q : Bool) → q ≡ true → (p || q) ≡ true
either true q e = refl
either false q e = e

-- a tick while interrupts are enabled requests one
requests : (turn : ℕ) (k : LineClock) → is_due turn k.due ≡ true → k.enable ≡ true → (clock_after_turn turn k).request ≡ true
unfolding clock_after_turn clock_after_tick
requests turn k due enabled = rw due (either k.request k.enable enabled)

-- the clock's request goes before all others
highest : (p : Priority) (b : BusState) → b.clock.request ≡ true → nat_lt (priority_number p) (priority_number Level6) ≡ true → highest_request p b ≡ Some Clock
unfolding highest_request
highest p b requested above = rw (requested, above) refl

ticked : (turn : ℕ) (b : BusState) → comes_before turn (nearest_but_clock b.line b.disk) ≡ true → bus_after_turn turn b ≡ bus_after_clock turn b
unfolding bus_after_turn bus_after_clock
ticked turn b rests = no_other_change_yet turn (bus_after_clock turn b) rests

ticked_request : (turn : ℕ) (b : BusState) → (clock_after_turn turn b.clock).request ≡ true → (bus_after_clock turn b).clock.request ≡ true
unfolding bus_after_clock
ticked_request turn b requested = requested

through : BusState → BusState × Option Vector
through b = (b, Some vectors.Clock)

pub granted_at_once : (turn : ℕ) (p : Priority) (b z : BusState) → ticks_through turn p b ≡ true → z ≡ bus_after_service Clock (bus_after_clock turn b) → grant_of p (bus_after_turn turn b) ≡ (z, Some vectors.Clock)
unfolding ticks_through grant_of through
granted_at_once turn p b z ticks is =
    let above = both ((b.clock.enable && is_due turn b.clock.due) && comes_before turn (nearest_but_clock b.line b.disk)) _ ticks in
    let rests = both (b.clock.enable && is_due turn b.clock.due) _ above.0 in
    let due = both b.clock.enable _ rests.0 in
    let requested = ticked_request turn b (requests turn b.clock due.1 due.0) in
    ap (grant_of p) (ticked turn b rests.1)
    ∙ ap (λ source. granted source (bus_after_clock turn b)) (highest p (bus_after_clock turn b) requested above.1)
    ∙ ap through (sym is)
