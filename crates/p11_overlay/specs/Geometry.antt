-- The pack of an RK05 drive: 203 cylinders of 2 surfaces of 12 sectors of 256 words.
use Rattle.std.specs.Prelude.{ℕ, ◌*◌}

abbrev pub cylinders : ℕ
cylinders = 203

abbrev pub track_sectors : ℕ
track_sectors = 12

abbrev pub sector_words : ℕ
sector_words = 256

abbrev pub all_sectors : ℕ
all_sectors = cylinders * 2 * track_sectors

abbrev pub sector_bytes : ℕ
sector_bytes = 2 * sector_words

abbrev pub image_bytes : ℕ
image_bytes = all_sectors * sector_bytes
