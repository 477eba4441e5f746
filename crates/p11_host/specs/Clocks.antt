-- The line clock by the host's clock, and the pace of turns. Times are in nanoseconds since the host's clock began.
use Rattle.std.specs.Prelude.{ℕ, ◌+◌, ◌-◌, ◌*◌, ◌/◌, min, max, Bool, Option, None, Some, nat_lt, if◌then◌else◌}
use Rattle.p11_host.specs.declared.clock.Hertz.{Hertz}
use Rattle.p11_host.specs.declared.clock.Hertz.TheVariants.{Fifty, Sixty}
use Rattle.p11_host.specs.declared.clock.LineClock.{LineClock}
use Rattle.p11_host.specs.declared.pace.Pace.{Pace}

-- cycles of the mains in a second
abbrev pub cycles : Hertz → ℕ
cycles Fifty = 50
cycles Sixty = 60

-- how many ticks come in so long
abbrev pub ticks_in : Hertz → ℕ → ℕ
ticks_in hertz time = time * cycles hertz / 1000000000

-- how many ticks are late: those that have come since the clock began, without those that were given or left out
abbrev pub late : LineClock → ℕ → ℕ
late clock now = ticks_in clock.hertz (now - clock.began) - clock.told

-- of the ticks that are late those of a second stay
abbrev pub left_out : LineClock → ℕ → ℕ
left_out clock now = late clock now - cycles clock.hertz

-- how long behind its beginning a clock makes its tick of this number
abbrev pub time_of : Hertz → ℕ → ℕ
time_of hertz number = (number * 1000000000 + (cycles hertz - 1)) / cycles hertz

-- how long the host sleeps: to the next tick, but 20 ms at most
abbrev pub nap : LineClock → ℕ → ℕ
nap clock now = min (time_of clock.hertz (clock.told + 1) - (now - clock.began)) 20000000

-- the turns of so long: none of less than 4 ms, and those of 50 ms at most
abbrev pub turns_in : ℕ → ℕ → ℕ
turns_in speed time = if nat_lt time 4000000 then 0 else speed * min time 50000000 / 1000000000

-- the turns that a pace allows
abbrev pub allowed : Pace → ℕ → ℕ
allowed pace now = turns_in pace.speed (now - pace.paid)

-- up to when a pace has its turns, behind so many more
abbrev pub paid_behind : Pace → ℕ → ℕ → ℕ
paid_behind pace now turns =
    min (max pace.paid (now - 50000000) + turns * 1000000000 / pace.speed) 18446744073709551615

-- the turns of a slice: as many as were asked for, or 20,000 if those are fewer and the line clock ticks
abbrev pub slice_turns : ℕ → Bool → ℕ
slice_turns slice has_clock = if has_clock then min slice 20000 else slice
