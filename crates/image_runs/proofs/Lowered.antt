-- The form of lowered code gives what is asked of a program's code alone.
use Rattle.std.proofs.Common.{◌≡◌, List, [], ◌∷◌, ◌++◌, length, Some, refl, ap, ◌∙◌}
use Rattle.std.specs.Prelude.{slice_get}
use Rattle.ck_int.specs.declared.kinds.IntKind.{IntKind}
use Rattle.ck_int.specs.declared.kinds.IntOp.{IntOp}
use Rattle.ck_int.specs.declared.kinds.IntOp.TheVariants.{Add, Sub}
use Rattle.c_tree.specs.Typing.{Sound}
use Rattle.cheri_c_sem.specs.Programs.{program_tree}
use Rattle.tac_ir.specs.WellFormed.{int_result}
use Rattle.tac_ir.specs.declared.code.TacFun.{TacFun}
use Rattle.tac_ir.specs.declared.code.TacInstr.{TacInstr}
use Rattle.tac_ir.specs.declared.code.TacInstr.TheVariants as instr
use Rattle.lower_runs.proofs.Programs.{programs_run}
use Rattle.lower_forms.specs.Forms as forms
use Rattle.lower_forms.specs.Forms.{IsMade, IsWide, TakesParameters}
use Rattle.lower_forms.proofs.Parameters.{main_gives_int, parameters_are_taken}
use Rattle.lower_forms.proofs.Running.{code_is_made}
use Rattle.select_words.specs.Operations.{AtKind}
use Rattle.select_runs.specs.Instructions.{IsOperation}
use Rattle.select_whole.specs.Runs.{IsInteger}
use Rattle.select_whole.specs.Visited.{Whole, gives_at, gives_by, main_of}
use Rattle.image_runs.specs.Asked.{Has, IsAt}
use Rattle.image_runs.specs.Lowered.{LoweredCode}

at_kind : (k : IntKind) (op : IntOp) → IsWide k op → AtKind k op
at_kind k Add h = tt
at_kind k Sub h = tt
at_kind k op h = h

operation : (i : TacInstr) → IsInteger i → IsMade i → IsOperation i
operation (instr.Int op k to a b) is h = at_kind k op h
operation i is h = absurd is

-- the place of an instruction before which others stand
there : (before : List TacInstr) (i : TacInstr) (rest : List TacInstr) →
    slice_get (before ++ i ∷ rest) (length before) ≡ Some i
there [] i rest = refl
there (x ∷ before) i rest = there before i rest

in_code : (f : TacFun) (i : TacInstr) (rest : List TacInstr) → IsAt f i rest → forms.Has f i
in_code f i rest at =
    (length at.before, ap (λ is. slice_get is (length at.before)) at.is ∙ there at.before i rest)

module _ (g : Whole) (sound : Sound g.program) (takes : TakesParameters g.program g.setting.code) where
  main_gives : gives_at g (main_of g) ≡ Some int_result
  unfolding program_tree
  main_gives = ap gives_by (main_gives_int g.program sound)

  main_takes : (f : TacFun) → Has g (main_of g) f → f.params ≡ 0
  unfolding program_tree
  main_takes f at = takes.main_takes f at

pub lowered_code : LoweredCode
lowered_code g sound is formed within =
    let takes = parameters_are_taken g.program sound g.setting.code formed in record {
      sound = sound;
      formed = formed;
      parameters = takes.begins;
      counts = takes.counts;
      main_gives = main_gives g sound takes;
      main_takes = main_takes g sound takes;
      writes_first = λ fun f at. (within.functions fun f at).writes_first;
      promoted = λ fun f at i rest here int.
          operation i int (code_is_made g.program sound g.setting.code is fun f at i (in_code f i rest here));
      same = λ legal w bytes turns. programs_run g.program sound g.setting.code is g.setting.map legal w bytes turns;
    }
