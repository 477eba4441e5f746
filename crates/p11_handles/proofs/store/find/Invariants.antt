use Rattle.std.proofs.Common.{◌≡◌, None, take}
use Rattle.std.specs.Prelude.{option_copied}
use Rattle.p11_store.specs.Calls.Files.{bytes_under}
use Rattle.p11_handles.proofs.store.find.Given as goal

abbrev pub invariant-loop-file : goal.invariant-loop-file
invariant-loop-file g l = option_copied l.found ≡ bytes_under None (take l.file-index l.files) l.name
