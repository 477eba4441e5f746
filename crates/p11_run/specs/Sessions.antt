-- The program's session, over a reader of its script and a writer of its output, as it leaves them: nothing is read or written besides.
use Rattle.std.specs.Prelude.{◌≡◌, ◌⊎◌, ℕ, ◌≤◌, List, [], ◌∷◌, Result, IfErr}
use Rattle.std.specs.Io.KnownBytes.{IsAtEnd}
use Rattle.p11_lines.specs.Writers.{WriterState}
use Rattle.p11_panel.specs.Readers.{ReaderState, Reads, ended, failed}
use Rattle.p11_panel.specs.Script.{ended_lines, script_lines}
use Rattle.p11_panel.specs.Session.{SessionState, LineDoes, ScriptDone, ScriptCut}
use Rattle.p11_panel.specs.declared.script.SessionFault.{SessionFault}
use Rattle.p11_run.specs.declared.ending.Cause.{Cause}
use Rattle.p11_run.specs.declared.ending.Cause.TheVariants as causes

-- The script was read to its end, all its lines are done, and their text is written: no call failed.
abbrev pub PlaysAll : Type 0 → ReaderState → ReaderState → SessionState → WriterState → SessionState → WriterState → Type 0
PlaysAll A r r' s w s' w' =
    (read : List ℕ) × (n : ℕ) × (m : ℕ)
    × Reads r r' read n (ended ∷ []) × (n ≤ 999999) × IsAtEnd r'.left
    × ScriptDone (LineDoes {A = A}) (script_lines read) s w s' w' m

-- The last read failed, and no other call. The lines that LF ended in what was read are done, and their text is written.
abbrev pub PlaysToFault : Type 0 → ReaderState → ReaderState → SessionState → WriterState → SessionState → WriterState → Type 0
PlaysToFault A r r' s w s' w' =
    (read : List ℕ) × (m : ℕ) × (n : ℕ)
    × Reads r r' read n (failed ∷ []) × (n ≤ 999999)
    × ScriptDone (LineDoes {A = A}) (ended_lines read) s w s' w' m

-- Just 1,000,000 reads gave bytes. The lines that LF ended in what was read are done, and their text is written.
abbrev pub PlaysToLimit : Type 0 → ReaderState → ReaderState → SessionState → WriterState → SessionState → WriterState → Type 0
PlaysToLimit A r r' s w s' w' =
    (read : List ℕ) × (m : ℕ) × (n : ℕ)
    × Reads r r' read n [] × (n ≡ 1000000)
    × ScriptDone (LineDoes {A = A}) (ended_lines read) s w s' w' m

-- The last write failed or took nothing, and no other call. Just the lines up to one are done, which LF ended, or which
-- is the last of a script that was read to its end.
abbrev pub PlaysToBreak : Type 0 → ReaderState → ReaderState → SessionState → WriterState → SessionState → WriterState → Type 0
PlaysToBreak A r r' s w s' w' =
    (read : List ℕ) × (n : ℕ)
    × ((Reads r r' read n [] × (n ≤ 1000000) × ScriptCut (LineDoes {A = A}) (ended_lines read) s w s' w')
    ⊎ (Reads r r' read n (ended ∷ []) × (n ≤ 999999) × IsAtEnd r'.left
    × ScriptCut (LineDoes {A = A}) (script_lines read) s w s' w'))

-- a session ends well, or by one of these three faults
abbrev pub IsOfSession : {T : Type 0} → Result T Cause → Type 0
IsOfSession result = IfErr result (λ cause. (fault : SessionFault) × (cause ≡ causes.Session fault))
