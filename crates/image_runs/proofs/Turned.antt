-- Words of a function stand there with other readings of its lines and entries.
use Rattle.std.proofs.Common.{ℕ, zero, suc, ◌+◌, ◌/◌, List, ◌∷◌, inl, inr}
use Rattle.ck_base.specs.declared.positions.Pos.{Pos}
use Rattle.rv_instr.specs.declared.instr.Instr.{Instr}
use Rattle.obj_mem.specs.declared.map.Frame.{Frame}
use Rattle.tac_ir.specs.declared.code.TacFun.{TacFun}
use Rattle.tac_ir.specs.declared.code.TacInstr.{TacInstr}
use Rattle.tac_ir.specs.declared.code.TacInstr.TheVariants as instr
use Rattle.select_words.specs.Selecting.{Selecting}
use Rattle.rv_select.specs.Selected.{FunctionStands, WordsOf, noted_copy, ways}

module _ (code : List Instr) (Says Says' Sinks Sinks' : (word : ℕ) → Pos → Type 0)
    (Entered Entered' : (fun at : ℕ) → Type 0) (say : (n : ℕ) (p : Pos) → Says n p → Says' n p)
    (sink : (n : ℕ) (p : Pos) → Sinks n p → Sinks' n p) (enter : (fun at : ℕ) → Entered' fun at → Entered fun at)
    (s : Selecting) (t : TacFun) (word : List TacInstr → ℕ) where
  copy_turned : (at skip : ℕ) (p q : Pos) (n : ℕ)
      → noted_copy (ways code Says Entered s t word at) n skip p q
      → noted_copy (ways code Says' Entered' s t word at) n skip p q
  copy_turned at skip p q zero h = h
  copy_turned at skip p q (suc n) h = (say (at + skip) p h.0, say (at + skip + 1) q h.1)

  words_turned : (at : ℕ) (i : TacInstr) (ws : List Instr) → WordsOf (ways code Says Entered s t word at) s i ws
      → WordsOf (ways code Says' Entered' s t word at) s i ws
  words_turned at (instr.Const to k v) ws h = h
  words_turned at (instr.Copy to from) ws h = h
  words_turned at (instr.Int o k to a b) ws h = h
  words_turned at (instr.Cmp o k to a b) ws h = h
  words_turned at (instr.Convert to from old new) ws h = h
  words_turned at (instr.Cap o to a b) ws h = h
  words_turned at (instr.Offset to base by) ws h = h
  words_turned at (instr.Narrow to base length exact) ws h = h
  words_turned at (instr.Load to from k p) ws h = (h.0, h.1, say (at + h.0) p h.2)
  words_turned at (instr.Store to v k p) ws h = (h.0, h.1, say (at + h.0) p h.2)
  words_turned at (instr.Local to var) ws h = h
  words_turned at (instr.Global to number literal) ws h = h
  words_turned at (instr.Function to fun) ws h = h
  words_turned at (instr.Zero var) ws h = h
  words_turned at (instr.CopyUnits from to bytes unit p q) ws h =
      (h.0, h.1, copy_turned at h.0 p q (bytes / unit) h.2)
  words_turned at (instr.Label l) ws h = h
  words_turned at (instr.Jump l) ws h = record { offset = h.offset; leads = h.leads; are = h.are }
  words_turned at (instr.Branch on when l) ws h =
      record { offset = h.offset; finds = h.finds; branches = h.branches; leads = h.leads }
  words_turned at (instr.Call to fun args) ws (inl h) = inl (record {
    offset = h.offset;
    passes = h.passes;
    passed = h.passed;
    leads = λ n e. h.leads n (enter fun n e);
    keep = h.keep;
    kept = h.kept;
    are = h.are;
  })
  words_turned at (instr.Call to fun args) ws (inr h) = inr h
  words_turned at (instr.CallValue to v of args p) ws h = record {
    finds = h.finds;
    found = h.found;
    passes = h.passes;
    passed = h.passed;
    reports = say _ p h.reports;
    keep = h.keep;
    kept = h.kept;
    are = h.are;
  }
  words_turned at (instr.Lib o to args) ws h = h
  words_turned at instr.Turn ws h = h
  words_turned at (instr.Return v) ws h = h

  pub function_turned : (frame : Frame) (entry : ℕ) → FunctionStands code Says Sinks Entered s frame t word entry
      → FunctionStands code Says' Sinks' Entered' s frame t word entry
  function_turned frame entry h = record {
    parameters = h.parameters;
    parameter_words = h.parameter_words;
    begins = h.begins;
    sinks = sink _ t.name h.sinks;
    first = h.first;
    each = λ before i rest e.
        let x = h.each before i rest e in
        record { words = x.words; are = words_turned (word (i ∷ rest)) i x.words x.are; has = x.has; next = x.next };
    inside = h.inside;
  }
