-- Laws of the definitions, each the contract of a small function.
use Rattle.std.specs.Prelude.{ℕ, ◌≡◌, ◌≤◌, ◌<◌, ◌^◌, ◌↔◌, true, false, length, map, Some, Ok, IfOk, IfSome, IsErr, IsOkAnd, MatchResult}
use Rattle.p11_psw.specs.declared.mode.Mode.{Mode}
use Rattle.p11_psw.specs.declared.mode.Mode.TheVariants.{User}
use Rattle.p11_kt11.specs.declared.reference.Kind.{Kind}
use Rattle.p11_kt11.specs.declared.register.Space.{Space}
use Rattle.p11_kt11.specs.declared.reference.Kind.TheVariants.{Read, Write}
use Rattle.p11_kt11.specs.declared.page.Page.{Page}
use Rattle.p11_kt11.specs.declared.entry.Entries.{Entries}
use Rattle.p11_kt11.specs.Page.{unwritten_page, written_page}
use Rattle.p11_kt11.specs.Reference.{page_number}
use Rattle.p11_kt11.specs.Register.{space_of}
use Rattle.p11_kt11.specs.Management.{Management, page_at}
use Rattle.p11_kt11.specs.Translation.{place, through, translate_of}
use Rattle.p11_kt11.specs.IoPage.{UserStaysOffIoPage}
use Rattle.p11_kt11.specs.Kept.Entries.{Agree, entry_of, served, slot_for}

-- with mapping off the upper 8 KB of the address space, and only it, goes to the I/O page, the upper 8 KB of the bus
abbrev pub TopAloneGoesToIoPage : Type 0
TopAloneGoesToIoPage =
    (mode : Mode) (address : ℕ) (kind : Kind) (s : Management) → address < 2 ^ 16 → s.status.enabled ≡ false
    → IsOkAnd (place mode address kind s) (λ p. (0o160000 ≤ address) ↔ ((0o760000 ≤ p) × (p < 2 ^ 18)))

-- a reference made twice in a row gets one answer
abbrev pub RepeatsItsAnswer : Type 0
RepeatsItsAnswer =
    (mode : Mode) (address : ℕ) (kind : Kind) (s : Management) → let translated = translate_of mode address kind in
    (translated (translated s).0).1 ≡ (translated s).1

-- W aside, each page is as it was: its address, length, direction and access
abbrev pub KeepsPages : Management → Management → Type 0
KeepsPages old new =
    (space : Space) (number : ℕ)
    → unwritten_page (page_at space number new) ≡ unwritten_page (page_at space number old)

-- a place depends on the pages, W aside, and on whether mapping is on
abbrev pub SamePagesSamePlace : Type 0
SamePagesSamePlace =
    (mode : Mode) (address : ℕ) (kind : Kind) (s t : Management)
    → t.status.enabled ≡ s.status.enabled → KeepsPages s t
    → place mode address kind t ≡ place mode address kind s

-- the user pages are as they were, W aside, and all else is as it was
abbrev pub KeepsAllButUserW : Management → Management → Type 0
KeepsAllButUserW old new =
    (new ≡ record old { user = new.user }) × (map unwritten_page new.user ≡ map unwritten_page old.user)

-- all but SR0 is as it was, and mapping stays on or off
abbrev pub KeepsAllButSr0 : Management → Management → Type 0
KeepsAllButSr0 old new = (new ≡ record old { status = new.status }) × (new.status.enabled ≡ old.status.enabled)

-- a translation in user mode changes nothing but W of user pages, or SR0 at an abort
abbrev pub UserTranslationKeeps : Type 0
UserTranslationKeeps =
    (address : ℕ) (kind : Kind) (s : Management) → let after = (translate_of User address kind s).0 in
    MatchResult (place User address kind s) (λ _. KeepsAllButUserW s after) (λ _. KeepsAllButSr0 s after)

-- a translation in user mode leaves the place of every reference of user mode
abbrev pub UserTranslationKeepsTheReach : Type 0
UserTranslationKeepsTheReach =
    (address : ℕ) (kind : Kind) (s : Management) (other : ℕ) (k : Kind)
    → place User other k (translate_of User address kind s).0 ≡ place User other k s

-- the addresses of user mode have 16 bits: with mapping on, a number beyond them is in no page, so it has no place
abbrev pub UserAddressesHave16Bits : Type 0
UserAddressesHave16Bits =
    (address : ℕ) (kind : Kind) (s : Management) → length s.user ≡ 8 → s.status.enabled ≡ true → 2 ^ 16 ≤ address
    → IsErr (place User address kind s)

-- a translation leaves that so
abbrev pub TranslationKeepsUserOffIoPage : Type 0
TranslationKeepsUserOffIoPage =
    (mode : Mode) (address : ℕ) (kind : Kind) (s : Management)
    → UserStaysOffIoPage s → UserStaysOffIoPage (translate_of mode address kind s).0

-- where the entries agree, a reference that one serves gets the place of its translation, which changes nothing
abbrev pub ServesTheTranslation : Type 0
ServesTheTranslation =
    (mode : Mode) (address : ℕ) (kind : Kind) (s : Management) (t : Entries) → Agree s t
    → IfSome (served (slot_for (space_of mode) (page_number address) t) address kind)
    (λ p. translate_of mode address kind s ≡ (s, Ok p))

-- the page as a reference leaves it
abbrev pub page_after : Kind → Page → Page
page_after Read page = page
page_after Write page = written_page page

-- the entry of a page, as a reference leaves it, serves that kind at every address that the page gives a place
abbrev pub EntryServesItsPage : Type 0
EntryServesItsPage =
    (page : Page) (kind : Kind) (address : ℕ)
    → IfOk (through page address kind) (λ p. served (entry_of (page_after kind page)) address kind ≡ Some p)
