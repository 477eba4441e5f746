use Rattle.std.proofs.Common.{◌∙◌, length, ap, sym, nat_eq, is_some}
use Rattle.std.specs.Map.{keys_of}
use Rattle.std.proofs.lemmas.Map.Made.{is_some-lookup}
use Rattle.std.proofs.lemmas.Map.Entries.{length-keys_of}
use Rattle.indexmap.proofs.CallerLemmas.{keys-insert_entry-present}
use Rattle.p11_overlay.proofs.drive.rewrite.Goals as goal

pub returns-in-Ok-clause-keys : goal.returns-in-Ok-clause-keys
returns-in-Ok-clause-keys g c =
    let k = is_some-lookup (nat_eq c.args.n) c.args.kept.now.entries in
    ap keys_of c.in-Ok.ensures.entries ∙ keys-insert_entry-present nat_eq c.args.kept.now c.args.n c.args.bytes.now (k ∙ c.requires)

pub returns-in-Ok-clause-len : goal.returns-in-Ok-clause-len
returns-in-Ok-clause-len g c =
    let k = is_some-lookup (nat_eq c.args.n) c.args.kept.now.entries in
    sym (length-keys_of c.insert.new.self.entries)
    ∙ ap length (ap keys_of c.in-Ok.ensures.entries ∙ keys-insert_entry-present nat_eq c.args.kept.now c.args.n c.args.bytes.now (k ∙ c.requires))
    ∙ length-keys_of c.args.kept.now.entries

pub returns-in-Err-clause-updates : goal.returns-in-Err-clause-updates
returns-in-Err-clause-updates g c =
    let k = is_some-lookup (nat_eq c.args.n) c.args.kept.now.entries in
    let f = sym (ap is_some c.in-Err.ensures.absent) ∙ k ∙ c.requires in
    λ q. cc f
