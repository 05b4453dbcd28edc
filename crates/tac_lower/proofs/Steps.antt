-- Code for the parts of a function, added one after another.
use Rattle.std.proofs.Common.{◌≡◌, ℕ, ◌+◌, ◌≤◌, List, [], ◌∷◌, Result, Ok, Err, IfOk, subst, arith}
use Rattle.c_tree.specs.Terms.{Term, term, Shape}
use Rattle.c_tree.specs.TreeWeight.{shape_weight, term_weight, terms_weight}
use Rattle.c_tree.specs.Terms as tree
use Rattle.c_tree.specs.declared.typed.FunDef.{FunDef}
use Rattle.c_tree.specs.declared.typed.Typed.{Typed}
use Rattle.tac_ir.specs.declared.code.TacInstr.TheVariants as instr
use Rattle.tac_ir.specs.declared.code.TacKind.{TacKind}
use Rattle.tac_lower.specs.declared.context.Home.{Home}
use Rattle.tac_emit.specs.declared.emitter.Emitter.{Emitter}
use Rattle.tac_lower.specs.declared.types.TypeFacts.{TypeFacts}
use Rattle.tac_emit.specs.Emitted.{HasKind, IsOpen, Grown, Adds, HasRoom, Labelled, Forked, Turned, Pushed}
use Rattle.tac_lower.specs.Scenes.{Scene, Lowered, Opened}
use Rattle.tac_emit.proofs.Labels as labels
use Rattle.tac_lower.proofs.Scening as scening

pub start : {p : Typed} {d : FunDef} {types : List TypeFacts} {homes : List Home} {a : Emitter} →
    Scene p d types homes a → Lowered p d types homes a a 0
start {p = p} {d = d} {types = types} {homes = homes} {a = a} s = scening.lowered_none p d types homes a 0 s

pub both : {p : Typed} {d : FunDef} {types : List TypeFacts} {homes : List Home} {a b c : Emitter} {m n : ℕ}
    → Lowered p d types homes a b m → Lowered p d types homes b c n → Lowered p d types homes a c (m + n)
both {p = p} {d = d} {types = types} {homes = homes} {a = a} {b = b} {c = c} {m = m} {n = n} f g =
    scening.lowered_then p d types homes a b c m n (m + n) f g (omega arith)

pub grew : {p : Typed} {d : FunDef} {types : List TypeFacts} {homes : List Home} {a b c : Emitter} {m n : ℕ}
    → Lowered p d types homes a b m → Grown b c → Adds b c n 0 → Lowered p d types homes a c (m + n)
grew {p = p} {d = d} {types = types} {homes = homes} {a = a} {b = b} {c = c} {m = m} {n = n} f g h =
    scening.lowered_grown p d types homes a b c m n (m + n) f g h (omega arith)

pub at_most : {p : Typed} {d : FunDef} {types : List TypeFacts} {homes : List Home} {a b : Emitter} {m q : ℕ} →
    Lowered p d types homes a b m → m ≤ q → Lowered p d types homes a b q
at_most {p = p} {d = d} {types = types} {homes = homes} {a = a} {b = b} {m = m} {q = q} f l =
    scening.lowered_more p d types homes a b m q f l

pub still : {p : Typed} {d : FunDef} {types : List TypeFacts} {homes : List Home} {a b : Emitter} {n t : ℕ}
    {k : TacKind} → HasKind a t k → Lowered p d types homes a b n → HasKind b t k
still {p = p} {d = d} {types = types} {homes = homes} {a = a} {b = b} {n = n} {t = t} {k = k} h f =
    scening.kept_lowered p d types homes a b t k n h f

pub as_kind : {e : Emitter} {t : ℕ} {j k : TacKind} → HasKind e t j → j ≡ k → HasKind e t k
as_kind {e = e} {t = t} h q = subst (λ z. HasKind e t z) q h

pub room : {p : Typed} {d : FunDef} {types : List TypeFacts} {homes : List Home} {a b : Emitter} {m n q : ℕ} →
    HasRoom a m → Lowered p d types homes a b n → n + q ≤ m → HasRoom b q
room h f l = record {
  temps = omega (arith, h.temps, f.adds.temps, l);
  labels = omega (arith, h.labels, f.adds.labels, l);
}

pub less_room : {a : Emitter} {m q : ℕ} → HasRoom a m → q ≤ m → HasRoom a q
less_room h l = record { temps = omega (arith, h.temps, l); labels = omega (arith, h.labels, l) }

pub still_open : {p : Typed} {d : FunDef} {types : List TypeFacts} {homes : List Home} {a b : Emitter} {n l : ℕ} →
    IsOpen a l → Lowered p d types homes a b n → IsOpen b l
still_open {p = p} {d = d} {types = types} {homes = homes} {a = a} {b = b} {n = n} {l = l} o f =
    scening.open_lowered p d types homes a b l n o f

-- an expression weighs 1 at least
pub heavy : (x : Term) → 1 ≤ term_weight x
heavy (term n xs t q) = by n (terms_weight xs)
  where
    by : (n : Shape) (w : ℕ) → 1 ≤ shape_weight n + w
    by tree.Call w = omega arith
    by (tree.Library k) w = omega arith
    by n w = omega arith

-- ---- where the last call's result is handed on

module _ {T E : Type 0} where
  pub tail : {p : Typed} {d : FunDef} {types : List TypeFacts} {homes : List Home} {a b : Emitter} {m q : ℕ}
      (c : Emitter) (n : ℕ) (r : Result T E)
      → Lowered p d types homes a b m → IfOk r (λ _. Lowered p d types homes b c n) → m + n ≤ q →
      IfOk r (λ _. Lowered p d types homes a c q)
  tail c n (Ok x) f g l = at_most (both f g) l
  tail c n (Err e) f g l = tt

  pub tail_grew : {p : Typed} {d : FunDef} {types : List TypeFacts} {homes : List Home} {a b : Emitter} {m q : ℕ}
      (c : Emitter) (n : ℕ) (r : Result T E)
      → Lowered p d types homes a b m → IfOk r (λ _. Grown b c) → IfOk r (λ _. Adds b c n 0) → m + n ≤ q →
      IfOk r (λ _. Lowered p d types homes a c q)
  tail_grew c n (Ok x) f g h l = at_most (grew f g h) l
  tail_grew c n (Err e) f g h l = tt

  pub tail_stands : {p : Typed} {d : FunDef} {types : List TypeFacts} {homes : List Home} {a b : Emitter} {l n q : ℕ}
      (c : Emitter) (r : Result T E)
      → Opened p d types homes a b (l ∷ []) n → IfOk r (λ _. Pushed b c (instr.Label l)) → n ≤ q →
      IfOk r (λ _. Lowered p d types homes a c q)
  tail_stands {p = p} {d = d} {types = types} {homes = homes} {a = a} {b = b} {l = l} {n = n} {q = q} c (Ok x) f g k =
      scening.fork_joined p d types homes a b c l n q f g k
  tail_stands c (Err e) f g l = tt

-- ---- with labels that do not stand so far

module _ {p : Typed} {d : FunDef} {types : List TypeFacts} {homes : List Home} where
  pub fork : {a b : Emitter} {l m : ℕ} → Scene p d types homes a → Forked a b l m →
      Opened p d types homes a b (m ∷ l ∷ []) 2
  fork {a = a} {b = b} {l = l} {m = m} s h = scening.forked p d types homes a b l m s h

  pub label : {a b : Emitter} {l : ℕ} → Scene p d types homes a → Labelled a b l → Opened p d types homes a b (l ∷ []) 1
  label {a = a} {b = b} {l = l} s h = scening.label_made p d types homes a b l s h

  pub opened : {a b c : Emitter} {ls : List ℕ} {m n : ℕ} → Opened p d types homes a b ls m →
      Lowered p d types homes b c n → Opened p d types homes a c ls (m + n)
  opened {a = a} {b = b} {c = c} {ls = ls} {m = m} {n = n} f g = scening.opened_then p d types homes a b c ls m n f g

  pub turned : {a b c : Emitter} {l m n : ℕ} → Opened p d types homes a b (m ∷ l ∷ []) n → Turned b c l → Adds b c 0 0 →
      Opened p d types homes a c (m ∷ []) n
  turned {a = a} {b = b} {c = c} {l = l} {m = m} {n = n} f h q = scening.fork_turned p d types homes a b c l m n f h q

  pub first_open : {a b : Emitter} {ls : List ℕ} {m n : ℕ} → Opened p d types homes a b (m ∷ ls) n → IsOpen b m
  first_open {a = a} {b = b} {ls = ls} {m = m} {n = n} f = scening.fork_end p d types homes a b ls m n f

  pub second_open : {a b : Emitter} {l m n : ℕ} → Opened p d types homes a b (m ∷ l ∷ []) n → IsOpen b l
  second_open {a = a} {b = b} {l = l} {m = m} {n = n} f = scening.fork_other p d types homes a b l m n f

  pub others_open : {a b : Emitter} {ls : List ℕ} {l n : ℕ} → IsOpen a l → Opened p d types homes a b ls n → IsOpen b l
  others_open {a = a} {b = b} {ls = ls} {l = l} o f = labels.pending_others p d a b l ls f.pending o

  pub opened_has : {a b : Emitter} {ls : List ℕ} {t n : ℕ} {k : TacKind} → HasKind a t k →
      Opened p d types homes a b ls n → HasKind b t k
  opened_has {a = a} {b = b} {ls = ls} {t = t} {n = n} {k = k} h f = scening.opened_has p d types homes a b ls t k n h f

  pub opened_room : {a b : Emitter} {ls : List ℕ} {m n q : ℕ} → HasRoom a m → Opened p d types homes a b ls n →
      n + q ≤ m → HasRoom b q
  opened_room h f l = record {
    temps = omega (arith, h.temps, f.adds.temps, l);
    labels = omega (arith, h.labels, f.adds.labels, l);
  }
