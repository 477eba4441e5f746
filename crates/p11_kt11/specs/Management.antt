-- The state of memory management, as programs and the operator see it.
use Rattle.std.specs.Prelude.{ℕ, List, false, replicate, slice_index_or, slice_set, if◌then◌else◌}
use Rattle.p11_psw.specs.declared.mode.Mode.TheVariants.{Kernel}
use Rattle.p11_kt11.specs.declared.page.Page.{Page}
use Rattle.p11_kt11.specs.declared.status.Status.{Status}
use Rattle.p11_kt11.specs.declared.register.Space.{Space}
use Rattle.p11_kt11.specs.declared.register.Space.TheVariants.{Kernel as KernelSpace, User as UserSpace}
use Rattle.p11_kt11.specs.Page.{clear_page}
use Rattle.p11_kt11.specs.Reference.{any_cause, no_cause}

pub record Management : Type 0 where
  -- the eight pages of kernel mode and of user mode
  pub kernel : List Page
  pub user : List Page
  -- SR0
  pub status : Status
  -- SR2, the virtual PC at the start of the instruction
  pub instruction : ℕ

-- SR0 with no error, mode 00, page 0 and mapping off
unfoldable pub clear_status : Status
clear_status = record { causes = no_cause; mode = Kernel; page = 0; enabled = false }

-- a new machine: every register 0
unfoldable pub new_management : Management
new_management =
    record { kernel = replicate 8 clear_page; user = replicate 8 clear_page; status = clear_status; instruction = 0 }

abbrev pub pages_of : Space → Management → List Page
pages_of KernelSpace s = s.kernel
pages_of UserSpace s = s.user

unfoldable pub page_at : Space → ℕ → Management → Page
page_at space number s = slice_index_or (pages_of space s) number clear_page

unfoldable pub with_page : Space → ℕ → Page → Management → Management
with_page KernelSpace number page s = record s { kernel = slice_set s.kernel number page }
with_page UserSpace number page s = record s { user = slice_set s.user number page }

-- INIT clears SR0; PAR, PDR and SR2 stay
unfoldable pub management_after_init : Management → Management
management_after_init s = record s { status = clear_status }

-- An instruction begins: SR2 takes its PC, with mapping off too, unless an error stands in SR0.
unfoldable pub management_after_begin_instruction : ℕ → Management → Management
management_after_begin_instruction pc s = if any_cause s.status.causes then s else record s { instruction = pc }
