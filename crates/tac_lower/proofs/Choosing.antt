-- The code of one of two ways, by a condition.
use Rattle.std.proofs.Common.{ℕ, false, List, ◌∷◌, ◌++◌, ap, ◌∙◌, subst}
use Rattle.tac_ir.specs.declared.code.TacInstr.TheVariants as instr
use Rattle.tac_ir.specs.declared.code.TacKind.{TacKind}
use Rattle.tac_emit.specs.declared.emitter.Emitter.{Emitter}
use Rattle.lower_runs.specs.States.{Scene}
use Rattle.lower_runs.specs.Operating.{Code}
use Rattle.lower_runs.specs.Expressions.{IsCondition, labelled, choice_code}
use Rattle.lower_runs.specs.Trees.{Values}
use Rattle.tac_emit.specs.Emitted.{Keeps, Forked}
use Rattle.tac_lower.specs.Nodes.{IsScalar}
use Rattle.tac_emit.specs.Adding.{mark, Added, Emits, one}
use Rattle.tac_lower.specs.Trees.{Setting, tree, Suits, signatures, Shows, ShowsCondition}
use Rattle.tac_lower.proofs.Deriving.{forked_mark, forked_next}
use Rattle.tac_emit.proofs.Emitting.{added_then}
use Rattle.tac_emit.proofs.Wells.{keeps_then}

-- a condition, and two ways
pub record Chosen (s : Setting) (w : ℕ) (a c i : Emitter) (One Other : Scene → List TacKind → Code → Type 0) :
    Type 0 where
  pub test : Code
  pub way : Code
  pub other : Code
  pub added : Added a i (choice_code a.labels test way other)
  pub keeps : Keeps a.kinds.items i.kinds.items
  pub is : (g : Scene) (kinds : List TacKind) → Suits s g → Keeps i.kinds.items kinds →
      ((j : TacKind) → IsScalar s.program w j → Values g (tree s w) →
      IsCondition s.program (signatures s.program) kinds g j (tree s w) false a.labels (labelled 2 (mark a)) (mark c)
      test) × One g kinds way × Other g kinds other

pub chosen : {s : Setting} {w l m : ℕ} {a b c e f h i : Emitter} {One Other : Scene → List TacKind → Code → Type 0} →
    Forked a b l m → ShowsCondition s w false l b c → Shows s c e One →
    Emits e f 0 (λ r. instr.Jump m ∷ instr.Label l ∷ r) → Shows s f h Other → Emits h i 0 (one (instr.Label m)) →
    Chosen s w a c i One Other
chosen {s = s} {w = w} {l = l} {m = m} {a = a} {b = b} {c = c} {e = e} {f = f} {h = h} {i = i}
    fork test first turn second join =
    let forked : Added a b (λ r. r) =
    record { is = λ r. ap (λ z. z ++ r) (fork.second.code ∙ fork.first.code) } in
    let code : (v w : ℕ) → Code = λ v w r. test.code (first.code (instr.Jump w ∷ instr.Label v
    ∷ second.code (instr.Label w ∷ r))) in
    let added : Added a i (code l m) =
    added_then forked (added_then test.added (added_then first.added (added_then turn.added
    (added_then second.added join.added)))) in
    let there : Added a i (code a.labels m) = subst (λ v. Added a i (code v m)) fork.first.label added in
    record {
      test = test.code;
      way = first.code;
      other = second.code;
      added = subst (λ w. Added a i (code a.labels w)) (forked_next fork) there;
      keeps = subst (λ z. Keeps z i.kinds.items) (fork.second.kinds ∙ fork.first.kinds)
          (keeps_then b.kinds.items c.kinds.items i.kinds.items test.keeps
          (keeps_then c.kinds.items e.kinds.items i.kinds.items first.keeps
          (keeps_then e.kinds.items f.kinds.items i.kinds.items turn.keeps
          (keeps_then f.kinds.items h.kinds.items i.kinds.items second.keeps join.keeps))));
      is = λ g kinds suits keeps.
          let in_h = keeps_then h.kinds.items i.kinds.items kinds join.keeps keeps in
          let in_f = keeps_then f.kinds.items h.kinds.items kinds second.keeps in_h in
          let in_e = keeps_then e.kinds.items f.kinds.items kinds turn.keeps in_f in
          let in_c = keeps_then c.kinds.items e.kinds.items kinds first.keeps in_e in
          let p = s.program in (
            λ j scalar means.
                let at = subst (λ z. IsCondition p (signatures p) kinds g j (tree s w) false z (mark b) (mark c)
                test.code) fork.first.label (test.is g kinds suits in_c j scalar means) in
                subst (λ z. IsCondition p (signatures p) kinds g j (tree s w) false a.labels z (mark c) test.code)
                (forked_mark fork) at,
            first.is g kinds suits in_e,
            second.is g kinds suits in_h,
          );
    }
