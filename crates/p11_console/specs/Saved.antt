-- Packs whose last state no file has.
use Rattle.std.specs.Prelude.{ℕ, Bool, false, not, ◌&&◌, ◌||◌, nat_lt, List, [], ◌∷◌, length, slice_set, slice_index_or, Option, Some, None, option_map, if◌then◌else◌}
use Rattle.std.specs.Option.{option_map_or}
use Rattle.std.specs.Str.{bytes_eq}
use Rattle.p11_lines.specs.declared.line.Line.{Line}
use Rattle.p11_lines.specs.declared.line.Line.TheVariants as lines
use Rattle.p11_overlay.specs.Drive.{Contents, image_of}
use Rattle.p11_rk11.specs.State.{drive_of, contents_of}
use Rattle.p11_cpu.specs.State.{State}

abbrev pub is_image : List ℕ → Option (List ℕ) → Bool
is_image image None = false
is_image image (Some saved) = bytes_eq image saved

-- sectors of a pack were written since it was mounted, and it isn't as the pack that was last saved from its drive
abbrev pub is_unsaved_pack : Option (List ℕ) → Contents → Bool
is_unsaved_pack saved pack = nat_lt 0 (length pack.changed) && not (is_image (image_of pack) saved)

unfoldable pub is_unsaved : State → List (Option (List ℕ)) → ℕ → Bool
is_unsaved s saved drive =
    option_map_or (is_unsaved_pack (slice_index_or saved drive None)) (contents_of (drive_of s.bus.disk drive)) false

-- there is a drive of this number, with a pack that has sectors which no file has
abbrev pub loses_sectors : State → List (Option (List ℕ)) → ℕ → Bool
loses_sectors s saved drive = nat_lt drive 8 && is_unsaved s saved drive

-- the pack on a drive as it is now, where it has sectors that no file has
unfoldable pub unsaved_image : State → List (Option (List ℕ)) → ℕ → Option (List ℕ)
unsaved_image s saved drive =
    if nat_lt drive 8 && is_unsaved s saved drive then option_map image_of (contents_of (drive_of s.bus.disk drive)) else None

unfoldable pub any_unsaved : State → List (Option (List ℕ)) → List ℕ → Bool
any_unsaved s saved [] = false
any_unsaved s saved (drive ∷ drives) = is_unsaved s saved drive || any_unsaved s saved drives

abbrev pub all_drives : List ℕ
all_drives = 0 ∷ 1 ∷ 2 ∷ 3 ∷ 4 ∷ 5 ∷ 6 ∷ 7 ∷ []

-- what each drive held when it was last saved, once a SAVE is done
unfoldable pub saved_by : {A : Type 0} → Line A → List ℕ → List (Option (List ℕ)) → List (Option (List ℕ))
saved_by (lines.Save drive name) image saved = if nat_lt drive 8 then slice_set saved drive (Some image) else saved
saved_by line image saved = saved
