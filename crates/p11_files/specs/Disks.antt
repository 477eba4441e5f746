-- The calls of a disk by which files are read and given other bytes, each with how it ended, and what contracts know of them.
use Rattle.std.specs.Prelude.{◌≡◌, ◌≢◌, ◌⊎◌, ℕ, Bool, true, false, List, [], ◌∷◌, ◌++◌, take, get_or, Option, None, Some, Result, Ok, Err, refl, nat_eq, String, string_bytes}
use Rattle.std.specs.List.{list_any}
use Rattle.std.specs.Option.{option_map}
use Rattle.std.specs.Coded.{Coded, code_by, coded×, coded_list, coded_option, coded_ℕ}
use Rattle.p11_files.specs.Faults.{text_of, is_own}
use Rattle.p11_files.specs.declared.file_fault.FileFault.{FileFault}
use Rattle.p11_files.specs.declared.disk.Act.{Act}
use Rattle.p11_files.specs.declared.disk.Found.{Found}
use Rattle.p11_files.specs.declared.disk.Act.TheVariants.{Look, Locate, Whole, Open, Read, Create, Miss, Write, Sync, Rename, Settle, Remove}

-- What was asked; the path that it names; the other path of a rename, the path that was answered, or the bytes that a read gave or a
-- write took; and why it failed, in the words that are shown, if it did.
pub record DiskCall : Type 0 where
  pub act : Act
  pub path : List ℕ
  pub other : List ℕ
  pub reason : Option (List ℕ)

-- The name whose links were followed last, and the path to which they lead; the path last asked for without links, and that path; the
-- calls that opened, read or changed files, the first one first; and why the last call failed that is none of these, if any did.
pub record DiskState : Type 0 where
  pub located : List ℕ × List ℕ
  pub whole : List ℕ × List ℕ
  pub made : List DiskCall
  pub reason : Option (List ℕ)

-- before the first call
abbrev pub untouched : DiskState
untouched = record { located = ([], []); whole = ([], []); made = []; reason = None }

-- why, in the words that are shown, if a call failed
abbrev pub reason_in : Option FileFault → Option (List ℕ)
reason_in None = None
reason_in (Some fault) = Some (text_of fault)

-- the same, by what it answered
abbrev pub reason_of : {T : Type 0} → Result T FileFault → Option (List ℕ)
reason_of (Ok value) = None
reason_of (Err fault) = Some (text_of fault)

abbrev pub call_on : {T : Type 0} → Act → List ℕ → List ℕ → Result T FileFault → DiskCall
call_on act path other result = record { act = act; path = path; other = other; reason = reason_of result }

-- a call that went well
abbrev pub well : Act → List ℕ → List ℕ → DiskCall
well act path other = record { act = act; path = path; other = other; reason = None }

-- a new file was asked for: it is made, or something has its path already
abbrev pub creating : List ℕ → Result Bool FileFault → DiskCall
creating path (Ok true) = well Create path []
creating path (Ok false) = well Miss path []
creating path (Err fault) = record { act = Create; path = path; other = []; reason = Some (text_of fault) }

-- the new file was to take bytes: it took a front of them
abbrev pub writing : List ℕ → Result ℕ FileFault → DiskCall
writing bytes (Ok count) = well Write [] (take count bytes)
writing bytes (Err fault) = record { act = Write; path = []; other = []; reason = Some (text_of fault) }

-- the open file was to give bytes: it gave these
abbrev pub reading : List ℕ → Result ℕ FileFault → DiskCall
reading bytes (Ok count) = well Read [] (take count bytes)
reading bytes (Err fault) = record { act = Read; path = []; other = []; reason = Some (text_of fault) }

-- a name's links were followed: to this path
abbrev pub locating : List ℕ → Result Found FileFault → DiskCall
locating name (Ok found) = well Locate name (string_bytes found.folder ++ string_bytes found.last)
locating name (Err fault) = record { act = Locate; path = name; other = []; reason = Some (text_of fault) }

-- a path without links was asked for: it is this
abbrev pub clearing : {A : Type 0} → List ℕ → Result (String A) FileFault → DiskCall
clearing path (Ok whole) = well Whole path (string_bytes whole)
clearing path (Err fault) = record { act = Whole; path = path; other = []; reason = Some (text_of fault) }

-- a call that failed leaves its reason; one that went well leaves what it did
abbrev pub failed_or : Option (List ℕ) → DiskState → DiskState → DiskState
failed_or None s done = done
failed_or (Some reason) s done = record s { reason = Some reason }

-- after more calls
abbrev pub with_calls : List DiskCall → DiskState → DiskState
with_calls calls s = record s { made = s.made ++ calls }

abbrev pub after_act : Act → DiskCall → DiskState → DiskState
after_act Look call s = failed_or call.reason s s
after_act Locate call s = failed_or call.reason s (record s { located = (call.path, call.other) })
after_act Whole call s = failed_or call.reason s (record s { whole = (call.path, call.other) })
after_act Open call s = failed_or call.reason s (with_calls (call ∷ []) s)
after_act Read call s = failed_or call.reason s (with_calls (call ∷ []) s)
after_act Create call s = failed_or call.reason s (with_calls (call ∷ []) s)
after_act Miss call s = s
after_act Write call s = with_calls (call ∷ []) s
after_act Sync call s = with_calls (call ∷ []) s
after_act Rename call s = with_calls (call ∷ []) s
after_act Settle call s = with_calls (call ∷ []) s
after_act Remove call s = with_calls (call ∷ []) s

-- what contracts know after a call
abbrev pub after : DiskState → DiskCall → DiskState
after s call = after_act call.act call s

-- Why it can't be done: a call failed for that reason, or none did, and the program itself refuses it.
abbrev pub WhyNot : FileFault → DiskState → DiskState → Type 0
WhyNot fault s s' = (s'.reason ≡ Some (text_of fault)) ⊎ ((is_own fault ≡ true) × (s'.reason ≡ s.reason))

-- a name in a folder, and no path
abbrev pub HasNoSlash : List ℕ → Type 0
HasNoSlash name = list_any (λ c. nat_eq c 47) name ≡ false

-- A path below a folder, which ends in a slash, that a name has: the name's links lead to it, and the path without links of its own
-- folder is that folder or below it.
abbrev pub LeadsBelow : List ℕ → List ℕ → List ℕ → DiskState → Type 0
LeadsBelow folder name path s =
    (parent : List ℕ) × (last : List ℕ) × (behind : List ℕ) × HasNoSlash last × (s.located ≡ (folder ++ name, parent ++ last))
    × (s.whole ≡ (parent, folder ++ behind)) × (path ≡ (folder ++ behind) ++ last)

-- a path that a name has: where its links lead, and below the folder, if there is one
abbrev pub Leads : Option (List ℕ) → List ℕ → List ℕ → DiskState → Type 0
Leads None name path s = s.located ≡ (name, path)
Leads (Some folder) name path s = LeadsBelow folder name path s

-- another name in the folder of a path
abbrev pub Beside : List ℕ → List ℕ → Type 0
Beside path new =
    (front : List ℕ) × (last : List ℕ) × (name : List ℕ) × (path ≡ front ++ last) × (new ≡ front ++ name) × HasNoSlash name × (new ≢ path)

-- writes that took these bytes, one after the other
abbrev pub Writes : List ℕ → List DiskCall → Type 0
Writes bytes [] = bytes ≡ []
Writes bytes (call ∷ calls) =
    (front : List ℕ) × (rest : List ℕ) × (bytes ≡ front ++ rest) × (call ≡ well Write [] front) × Writes rest calls

-- The calls by which a new file gets its bytes and then a path: it takes all of them, they are brought to the disk, it is named so, and
-- its folder's entry is brought to the disk.
abbrev pub Fills : List ℕ → List ℕ → List ℕ → List DiskCall → Type 0
Fills new path bytes calls =
    (writes : List DiskCall) × Writes bytes writes
    × (calls ≡ writes ++ well Sync [] [] ∷ well Rename new path ∷ well Settle path [] ∷ [])

-- a front of such calls, and then one that failed for this reason
abbrev pub CutFill : List ℕ → List ℕ → List ℕ → FileFault → List DiskCall → List DiskCall → DiskCall → Type 0
CutFill new path bytes fault front more failed = Fills new path bytes (front ++ more) × (failed.reason ≡ Some (text_of fault))

-- Such calls up to one that failed, for this reason, and the removal of the new file, unless it has the path by then.
abbrev pub FailsToFill : List ℕ → List ℕ → List ℕ → FileFault → List DiskCall → Type 0
FailsToFill new path bytes fault calls =
    (front : List DiskCall) × (more : List DiskCall) × (failed : DiskCall) × CutFill new path bytes fault front more failed
    × ((calls ≡ front ++ failed ∷ []) ⊎ ((reason : Option (List ℕ)) × (calls ≡ front ++ failed
    ∷ (record { act = Remove; path = new; other = []; reason = reason }) ∷ [])))

-- nothing but looks
abbrev pub OnlyLooked : DiskState → DiskState → Type 0
OnlyLooked s s' = (s'.made ≡ s.made) × (s'.located ≡ s.located) × (s'.whole ≡ s.whole)

-- A new file is made beside a path, and is filled and given the path.
abbrev pub Places : List ℕ → List ℕ → DiskState → DiskState → Type 0
Places path bytes s s' =
    (new : List ℕ) × (calls : List DiskCall) × Beside path new × Fills new path bytes calls × (s' ≡ with_calls (well Create new [] ∷ calls) s)

-- It isn't made; or it is taken away, or is left with the path that it was to have.
abbrev pub FailsToPlace : List ℕ → List ℕ → FileFault → DiskState → DiskState → Type 0
FailsToPlace path bytes fault s s' =
    (OnlyLooked s s' × WhyNot fault s s')
    ⊎ ((new : List ℕ) × (calls : List DiskCall) × Beside path new × FailsToFill new path bytes fault calls
    × (s' ≡ with_calls (well Create new [] ∷ calls) s))

-- The bytes of a name are replaced: a new file is made beside the path that the name has, and is filled and given the path.
abbrev pub Replaces : Option (List ℕ) → List ℕ → List ℕ → DiskState → DiskState → Type 0
Replaces folder name bytes s s' =
    (path : List ℕ) × (new : List ℕ) × (calls : List DiskCall) × Leads folder name path s' × Beside path new × Fills new path bytes calls
    × (s'.made ≡ s.made ++ (well Create new [] ∷ calls))

-- They aren't: no file is made; or the new one is taken away, or is left with the path that it was to have.
abbrev pub FailsToReplace : Option (List ℕ) → List ℕ → List ℕ → FileFault → DiskState → DiskState → Type 0
FailsToReplace folder name bytes fault s s' =
    ((s'.made ≡ s.made) × WhyNot fault s s')
    ⊎ ((path : List ℕ) × (new : List ℕ) × (calls : List DiskCall) × Leads folder name path s' × Beside path new
    × FailsToFill new path bytes fault calls × (s'.made ≡ s.made ++ (well Create new [] ∷ calls)))

-- the folder below which alone files are read, unless any may be
abbrev pub limit : Bool → Option (List ℕ) → Option (List ℕ)
limit true folder = None
limit false folder = folder

-- the path of a name that is to be read: the name itself, or the path without links of what it leads to, below the folder
abbrev pub Names : Option (List ℕ) → List ℕ → List ℕ → DiskState → Type 0
Names None name path s = path ≡ name
Names (Some folder) name path s = (behind : List ℕ) × (path ≡ folder ++ behind) × (s.whole ≡ (folder ++ name, path))

-- reads that gave these bytes, one after the other
abbrev pub Reads : List ℕ → List DiskCall → Type 0
Reads bytes [] = bytes ≡ []
Reads bytes (call ∷ calls) =
    (front : List ℕ) × (rest : List ℕ) × (bytes ≡ front ++ rest) × (call ≡ well Read [] front) × Reads rest calls

-- the bytes of a name are read: its file is opened, and read until a read finds the end
abbrev pub ReadsFile : Option (List ℕ) → List ℕ → List ℕ → DiskState → DiskState → Type 0
ReadsFile folder name bytes s s' =
    (path : List ℕ) × (reads : List DiskCall) × Names folder name path s' × Reads bytes reads
    × (s'.made ≡ s.made ++ (well Open path [] ∷ (reads ++ well Read [] [] ∷ [])))

abbrev pub act_number : Act → ℕ
act_number Look = 0
act_number Locate = 1
act_number Whole = 2
act_number Open = 3
act_number Read = 4
act_number Create = 5
act_number Miss = 6
act_number Write = 7
act_number Sync = 8
act_number Rename = 9
act_number Settle = 10
act_number Remove = 11

abbrev pub act_of : ℕ → Act
act_of number = get_or (Look ∷ Locate ∷ Whole ∷ Open ∷ Read ∷ Create ∷ Miss ∷ Write ∷ Sync ∷ Rename ∷ Settle ∷ []) number Remove

pub act_back : (act : Act) → act_of (act_number act) ≡ act
act_back Look = refl
act_back Locate = refl
act_back Whole = refl
act_back Open = refl
act_back Read = refl
act_back Create = refl
act_back Miss = refl
act_back Write = refl
act_back Sync = refl
act_back Rename = refl
act_back Settle = refl
act_back Remove = refl

abbrev pub act_code : Coded Act
act_code = code_by ℕ coded_ℕ act_number act_of act_back

abbrev pub call_code : Coded DiskCall
call_code = code_by (Act × (List ℕ × (List ℕ × Option (List ℕ))))
    (coded× act_code (coded× (coded_list coded_ℕ) (coded× (coded_list coded_ℕ) (coded_option (coded_list coded_ℕ)))))
    (λ call. (call.act, (call.path, (call.other, call.reason))))
    (λ fields. record { act = fields.0; path = fields.1.0; other = fields.1.1.0; reason = fields.1.1.1 }) (λ _. refl)

abbrev pub paths_code : Coded (List ℕ × List ℕ)
paths_code = coded× (coded_list coded_ℕ) (coded_list coded_ℕ)

-- how the logic stores what contracts know of a disk
abbrev pub disk_code : Coded DiskState
disk_code = code_by ((List ℕ × List ℕ) × ((List ℕ × List ℕ) × (List DiskCall × Option (List ℕ))))
    (coded× paths_code (coded× paths_code (coded× (coded_list call_code) (coded_option (coded_list coded_ℕ)))))
    (λ s. (s.located, (s.whole, (s.made, s.reason))))
    (λ fields. record { located = fields.0; whole = fields.1.0; made = fields.1.1.0; reason = fields.1.1.1 }) (λ _. refl)
