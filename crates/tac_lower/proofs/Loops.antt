-- The labels of loops, and code behind which a label stands.
use Rattle.std.proofs.Common.{ℕ, ◌+◌, ◌≤◌, List, [], ◌∷◌, Result, Ok, Err, IfOk, ap, ◌∙◌, arith}
use Rattle.std.specs.Prelude.{◌==◌, ◌||◌, false}
use Rattle.c_tree.specs.declared.typed.FunDef.{FunDef}
use Rattle.c_tree.specs.declared.typed.Typed.{Typed}
use Rattle.tac_ir.specs.WellFormed.{has_label}
use Rattle.tac_ir.specs.declared.code.TacInstr.TheVariants as instr
use Rattle.tac_lower.specs.declared.context.Home.{Home}
use Rattle.tac_emit.specs.declared.emitter.Emitter.{Emitter}
use Rattle.tac_lower.specs.declared.statements.Circle.{Circle}
use Rattle.tac_lower.specs.declared.types.TypeFacts.{TypeFacts}
use Rattle.tac_emit.specs.Emitted.{Stands, Built, Labelled, Turned, Pushed, Adds}
use Rattle.tac_lower.specs.Scenes.{Scene, Lowered, Opened}
use Rattle.tac_lower.specs.Statements.{Begun, Behind}
use Rattle.tac_emit.proofs.Labels as labels
use Rattle.tac_lower.proofs.Scening as scening
use Rattle.tac_emit.proofs.Wells.{or_left, or_right, same_number, keeps_same, pushed_has, built}

-- ---- labels that stand

-- the label that was added last stands
stands_here : (a b : Emitter) (l : ℕ) → Pushed a b (instr.Label l) → Stands b l
stands_here a b l h =
    record {
      is = pushed_has a b (instr.Label l) h l ∙ or_right (has_label a.code.items l) (l == l || false)
          (or_left (l == l) false (same_number l));
    }

pub stands_pushed : {a b : Emitter} {l m : ℕ} → Stands a l → Pushed a b (instr.Label m) → Stands b l
stands_pushed {a = a} {b = b} {l = l} {m = m} s h =
    record { is = pushed_has a b (instr.Label m) h l ∙ or_left (has_label a.code.items l) (m == l || false) s.is }

stands_labelled : (a b : Emitter) (l m : ℕ) → Stands a l → Labelled a b m → Stands b l
stands_labelled a b l m s h = record { is = ap (λ z. has_label z l) h.code ∙ s.is }

pub begun_stands : {a b : Emitter} {c : Circle} → Begun a b c → Stands b c.top
begun_stands {a = a} {b = b} {c = c} h =
    stands_labelled h.others.middle b c.top c.end
    (stands_labelled h.stood h.others.middle c.top c.next (stands_here h.made h.stood c.top h.stands)
    h.others.first) h.others.second

module _ {p : Typed} {d : FunDef} {types : List TypeFacts} {homes : List Home} where
  pub stands_still : {a b : Emitter} {l n : ℕ} → Stands a l → Lowered p d types homes a b n → Stands b l
  stands_still {l = l} s f = f.built.stands l s

  pub stands_behind : {a b : Emitter} {l m n : ℕ} → Stands a l → Behind p d types homes a b m n → Stands b l
  stands_behind {l = l} s f = stands_pushed (stands_still s f.lowered) f.stands

  -- ---- a loop begins

  pub begun : {a b : Emitter} {c : Circle} → Scene p d types homes a → Begun a b c
      → Opened p d types homes a b (c.end ∷ c.next ∷ []) 3
  begun {a = a} {b = b} {c = c} s h =
      let one = scening.label_made p d types homes a h.made c.top s h.top in
      let two = scening.opened_stands p d types homes a h.made h.stood [] c.top 1 one h.stands in
      let three = scening.opened_more p d types homes a h.stood h.others.middle [] c.next 1 two h.others.first in
      scening.opened_more p d types homes a h.others.middle b (c.next ∷ []) c.end 2 three h.others.second

  -- ---- the second of two labels stands behind code, and then the first

  pub behind_second : {a b c : Emitter} {l m k n : ℕ} → Opened p d types homes a b (m ∷ l ∷ []) k
      → Behind p d types homes b c l n → Opened p d types homes a c (m ∷ []) (k + n)
  behind_second {a = a} {b = b} {c = c} {l = l} {m = m} {k = k} {n = n} f h =
      let all = scening.opened_then p d types homes a b h.middle (m ∷ l ∷ []) k n f h.lowered in
      scening.opened_stands p d types homes a h.middle c (m ∷ []) l (k + n)
      (scening.opened_swap p d types homes a h.middle [] l m (k + n) all) h.stands

  -- code leads on, and then the label stands
  pub opened_turned : {a b c : Emitter} {ls : List ℕ} {l n : ℕ} → Opened p d types homes a b (l ∷ ls) n
      → Turned b c l → Adds b c 0 0 → Opened p d types homes a c ls n
  opened_turned {a = a} {b = b} {c = c} {ls = ls} {l = l} {n = n} f h q =
      let led : Built p d b h.middle = built p d b h.middle f.scene.well h.leads in
      let less = labels.pending_stands p d a h.middle c l ls
      (labels.pending_then p d a b h.middle (l ∷ ls) f.pending led) h.stands in
      record {
        pending = less;
        scene = record {
          ready = f.scene.ready;
          housed = scening.housed_kept p d types homes h.middle c
              (keeps_same h.middle.kinds.items c.kinds.items h.stands.kinds)
              (scening.housed_kept p d types homes b h.middle h.leads.keeps f.scene.housed);
          well = less.well;
        };
        adds = record { temps = omega (arith, f.adds.temps, q.temps); labels = omega (arith, f.adds.labels, q.labels) };
      }

  -- ---- where the last call's result is handed on

  pub tail_turned : {T E : Type 0} {a b : Emitter} {l n q : ℕ} (c : Emitter) (r : Result T E)
      → Opened p d types homes a b (l ∷ []) n → IfOk r (λ _. Turned b c l) → IfOk r (λ _. Adds b c 0 0) → n ≤ q
      → IfOk r (λ _. Lowered p d types homes a c q)
  tail_turned {a = a} {b = b} {l = l} {n = n} {q = q} c (Ok x) f h k lt =
      scening.opened_lowered p d types homes a c n q (opened_turned f h k) lt
  tail_turned c (Err e) f h k lt = tt

  pub tail_behind : {T E : Type 0} {a b : Emitter} {n : ℕ} (l : ℕ) (c : Emitter) (r : Result T E)
      → Lowered p d types homes a b n → IfOk r (λ _. Pushed b c (instr.Label l))
      → IfOk r (λ _. Behind p d types homes a c l n)
  tail_behind {b = b} l c (Ok x) f h = record { middle = b; lowered = f; stands = h }
  tail_behind l c (Err e) f h = tt
