-- A drive with its pack and its heads.
use Rattle.std.specs.Prelude.{ℕ, Option}
use Rattle.p11_overlay.specs.Drive.{Contents}
use Rattle.p11_rk11.specs.declared.mounted.PendingSeek.{PendingSeek}

-- a transfer takes 32 turns for each sector
abbrev pub sector_turns : ℕ
sector_turns = 32

-- What is seen of it: the pack's contents, where the heads are, and a seek under way.
pub record MountedDrive : Type 0 where
  pub contents : Contents
  pub cylinder : ℕ
  pub seek : Option PendingSeek
