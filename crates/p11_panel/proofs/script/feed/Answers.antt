use Rattle.std.proofs.Common.{◌≡◌, ◌+◌, ◌++◌, [], sym, refl, arith, ℕ, take, drop, append-nil}
use Rattle.std.proofs.lemmas.Result.{err_from_is_err_and}
use Rattle.p11_panel.specs.Session.{LineDoes}
use Rattle.p11_panel.proofs.SessionLemmas.{stands_is, cut_is, cut_bytes, chunk_more, chunk_rest, chunk_all}
use Rattle.p11_panel.proofs.script.feed.Goals as goal

sums : (a b c : ℕ) → a + b + c ≡ a + (b + c)
sums a b c = omega arith

pub loop-byte-init : goal.loop-byte-init
loop-byte-init g c = record {
  few = omega arith;
  stands = λ read s start count h. stands_is read (read ++ []) s start _ _ count (count + 0) _ (sym (append-nil read)) (omega arith) h;
}

pub returns-in_err-answered-clause-err : goal.returns-in_err-answered-clause-err
returns-in_err-answered-clause-err g c =
    let e = err_from_is_err_and c.from_residual.result c.from_residual.ensures.1 in
    let bytes = c.args.bytes.now in
    let i = c.loop-byte.byte-index in
    rw e.1 (λ read s start count h.
    let cut = c.in_err-answered.ensures.err (read ++ take i bytes) s start (count + c.loop-byte.answered) (c.loop-byte.invariant.stands read s start count h) in
    let Does = LineDoes {A = g.row.A.Denot} in
    let here = cut_is Does _ (read ++ take (i + 1) bytes) s start _ _ (chunk_more read bytes i c.loop-byte-test.true) cut in
    cut_is Does _ (read ++ bytes) s start _ _ (chunk_rest read bytes (i + 1)) (cut_bytes Does (read ++ take (i + 1) bytes) (drop (i + 1) bytes) s start _ _ here))

pub loop-byte-preserved : goal.loop-byte-preserved
loop-byte-preserved g c = record {
  few = omega (arith, c.in_ok-answered.ensures.one, c.loop-byte.invariant.few);
  stands = λ read s start count h.
      stands_is _ (read ++ take (c.loop-byte.byte-index + 1) c.args.bytes.now) s start _ _ _ (count + (c.loop-byte.answered + c.in_ok-answered.field-0)) _
      (chunk_more read c.args.bytes.now c.loop-byte.byte-index c.loop-byte-test.true) (sums count c.loop-byte.answered c.in_ok-answered.field-0)
      (c.in_ok-answered.ensures.ok (read ++ take c.loop-byte.byte-index c.args.bytes.now) s start (count + c.loop-byte.answered) (c.loop-byte.invariant.stands read s start count h));
}

pub returns-clause-ok : goal.returns-clause-ok
returns-clause-ok g c read s start count h =
    stands_is _ (read ++ c.args.bytes.now) s start _ _ _ (count + c.loop-byte.answered) _
    (chunk_all read c.args.bytes.now c.loop-byte.byte-index (omega arith)) refl (c.loop-byte.invariant.stands read s start count h)
