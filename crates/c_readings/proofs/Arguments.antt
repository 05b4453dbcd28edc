-- The values of arguments, one behind another.
use Rattle.std.proofs.Common.{◌≡◌, ℕ, ◌+◌, ◌<◌, List, [], ◌∷◌, ◌++◌, map, Result, Ok}
use Rattle.std.proofs.Common.{Err, refl, sym, ap, subst, ◌∙◌, append_assoc}
use Rattle.std.proofs.lemmas.List.{map-append, append-nil}
use Rattle.std.specs.Global.{Vec}
use Rattle.ck_base.specs.declared.refusal.Refusal.{Refusal}
use Rattle.c_tree.specs.declared.syntax.NodeKind.TheVariants as Kinds
use Rattle.c_tree.specs.Syntax.{Syn, Syns, nil}
use Rattle.c_tree.specs.Scopes.{State, Doing, Fault, give, continued, ◌>>=◌}
use Rattle.c_tree.specs.Conversions as meant
use Rattle.c_tree.specs.Readings.{Reading}
use Rattle.c_tree.specs.Expressions.{read_value, read_values}
use Rattle.c_tree.specs.Programs.{reading, readings}
use Rattle.c_expressions.specs.declared.nodes.Operand.{Operand}
use Rattle.c_expressions.specs.Nodes.{IsWhole, term_count}
use Rattle.c_operators.specs.Called.{AreThere}
use Rattle.c_elaborator.specs.declared.work.Work.{Work}
use Rattle.c_elaborator.specs.Answers.{quietly, Answers, Done, Keeps, OperandThere, IsOperand, operand_in}
use Rattle.c_elaborator.specs.Parts.{IsPart, AreParts}
use Rattle.c_elaborator.proofs.Sequencing.{quiet_law, then, gave, answers_at, operand_kept, operand_there}
use Rattle.c_readings.specs.Gathered.{AllThere, AreOperands, ReadSoFar}
use Rattle.c_readings.proofs.Kids.{cut, no_parts, parts_kept}
use Rattle.c_readings.proofs.Gathering.{step_then, step_failed, readings_more, readings_nil}

-- ---- lists of operands

pub operands_kept : (v w : Work) (xs : List Operand) → Keeps v w → AreThere (term_count v.nodes) xs →
    map (operand_in w) xs ≡ map (operand_in v) xs
operands_kept v w [] k h = refl
operands_kept v w (x ∷ xs) k h =
    ap (λ (z : meant.Operand). z ∷ map (operand_in w) xs) (operand_kept v w x k h.0)
    ∙ ap (λ (zs : List meant.Operand). operand_in v x ∷ zs) (operands_kept v w xs k h.1)

pub operands_there : (v w : Work) (xs : List Operand) → Keeps v w → AreThere (term_count v.nodes) xs →
    AreThere (term_count w.nodes) xs
operands_there v w [] k h = tt
operands_there v w (x ∷ xs) k h = (operand_there v w x k h.0, operands_there v w xs k h.1)

there_one : (n : ℕ) (xs : List Operand) (x : Operand) → AreThere n xs → x.node < n → AreThere n (xs ++ x ∷ [])
there_one n [] x h l = (l, tt)
there_one n (y ∷ xs) x h l = (h.0, there_one n xs x h.1 l)

-- ---- steps

Values : Type 0
Values = Result (List meant.Operand × State) Fault

abbrev joined : List Reading → List meant.Operand → Doing (List meant.Operand)
joined rs ys = read_values rs >>= λ zs. give (ys ++ zs)

begins : (rs : List Reading) (s : State) → read_values rs s ≡ joined rs [] s
begins rs s = at (read_values rs s)
  where
    at : (o : Result (List meant.Operand × State) Fault) → o ≡ continued o (λ zs. give ([] ++ zs))
    at (Ok x) = refl
    at (Err e) = refl

ends : (d : Doing (List meant.Operand)) (s : State) → (d >>= joined []) s ≡ d s
ends d s = at (d s)
  where
    at : (o : Result (List meant.Operand × State) Fault) → continued o (joined []) ≡ o
    at (Ok x) = ap (λ (ys : List meant.Operand). Ok (ys, x.1)) (append-nil x.0)
    at (Err e) = refl

turns : (d : Doing (List meant.Operand)) (q : Reading) (rs : List Reading) (s : State) →
    (d >>= joined (q ∷ rs)) s ≡ ((d >>= λ ys. read_value q >>= λ z. give (ys ++ z ∷ [])) >>= joined rs) s
turns d q rs s = first (d s)
  where
    third : (ys : List meant.Operand) (z : meant.Operand) (o : Result (List meant.Operand × State) Fault) →
        continued (continued o (λ zs. give (z ∷ zs))) (λ zs. give (ys ++ zs))
        ≡ continued o (λ zs. give ((ys ++ z ∷ []) ++ zs))
    third ys z (Ok x) = ap (λ (zs : List meant.Operand). Ok (zs, x.1)) (sym (append_assoc ys (z ∷ []) x.0))
    third ys z (Err e) = refl

    second : (ys : List meant.Operand) (o : Result (meant.Operand × State) Fault) →
        continued (continued o (λ z. read_values rs >>= λ zs. give (z ∷ zs))) (λ zs. give (ys ++ zs))
        ≡ continued (continued o (λ z. give (ys ++ z ∷ []))) (joined rs)
    second ys (Ok x) = third ys x.0 (read_values rs x.1)
    second ys (Err e) = refl

    first : (o : Result (List meant.Operand × State) Fault) →
        continued o (joined (q ∷ rs)) ≡ continued (continued o (λ ys. read_value q >>= λ z. give (ys ++ z ∷ [])))
        (joined rs)
    first (Ok x) = second x.0 (read_value q x.1)
    first (Err e) = refl

stops : (q : Reading) (rs : List Reading) (ys : List meant.Operand) (s : State) →
    joined (q ∷ rs) ys s ≡ (read_value q >>= λ z. (read_values rs >>= λ zs. give (z ∷ zs)) >>= λ zs. give (ys ++ zs)) s
stops q rs ys s = at (read_value q s)
  where
    at : (o : Result (meant.Operand × State) Fault) →
        continued (continued o (λ z. read_values rs >>= λ zs. give (z ∷ zs))) (λ zs. give (ys ++ zs))
        ≡ continued o (λ z. (read_values rs >>= λ zs. give (z ∷ zs)) >>= λ zs. give (ys ++ zs))
    at (Ok x) = refl
    at (Err e) = refl

-- ---- the arguments that were read so far

pub so_far_begins : (u : Work) (ks : List ℕ) (found : Vec Operand) → IsWhole u.nodes → found.items ≡ [] → (xs : Syns) →
    AreParts u ks xs → ReadSoFar u u xs ks found
so_far_begins u ks found w e xs p = record {
  rest = xs;
  parts = p;
  before = give (map (operand_in u) found.items);
  done = gave quietly quiet_law u (map (operand_in u) found.items) (AllThere u found) w
      (subst (λ (z : List Operand). AreThere (term_count u.nodes) z) (sym e) tt);
  is = λ s. begins (readings xs) s ∙ ap (λ (z : List Operand). joined (readings xs) (map (operand_in u) z) s) (sym e);
}

pub so_far_ends : (u v : Work) (xs : Syns) (found : Vec Operand) → ReadSoFar u v xs [] found →
    Answers quietly u v (read_values (readings xs)) AllThere AreOperands (Ok found)
so_far_ends u v xs found r =
    answers_at quietly u v (read_values (readings xs)) r.before AllThere AreOperands (Ok found)
    (λ s k. r.is s ∙ ap (λ (rs : List Reading). (r.before >>= joined rs) s)
    (ap readings (no_parts v r.rest r.parts) ∙ readings_nil) ∙ ends r.before s) r.done

pub so_far_fails : (u v w : Work) (xs : Syns) (k : ℕ) (ks : List ℕ) (found : Vec Operand) (e : Refusal) →
    ReadSoFar u v xs (k ∷ ks) found →
    ((y : Syn) → IsPart v k y → Answers quietly v w (read_value (reading y)) OperandThere IsOperand (Err e)) →
    Answers quietly u w (read_values (readings xs)) AllThere AreOperands (Err e)
so_far_fails u v w xs k ks found e r h =
    let c = cut v k ks r.rest r.parts in
    let ys = map (operand_in v) found.items in
    step_then u v w (read_values (readings xs)) r.before (joined (readings r.rest)) ys _ AllThere AreOperands
    (Err e) r.is r.done
    (step_failed v w w (joined (readings r.rest) ys) (read_value (reading c.head))
    (λ z. (read_values (readings c.tail) >>= λ zs. give (z ∷ zs)) >>= λ zs. give (ys ++ zs)) OperandThere
    IsOperand AllThere AreOperands e
    (λ s. ap (λ (rs : List Reading). joined rs ys s) (ap readings c.is ∙ readings_more c.head c.tail)
    ∙ stops (reading c.head) (readings c.tail) ys s) (h c.head c.first))

pub so_far_steps : (u v w : Work) (xs : Syns) (k : ℕ) (ks : List ℕ) (found longer : Vec Operand) (x : Operand) →
    ReadSoFar u v xs (k ∷ ks) found →
    ((y : Syn) → IsPart v k y → Done quietly v w (read_value (reading y)) (OperandThere w x) (IsOperand w x)) →
    longer.items ≡ found.items ++ x ∷ [] → ReadSoFar u w xs ks longer
so_far_steps u v w xs k ks found longer x r h e =
    let c = cut v k ks r.rest r.parts in
    let a = h c.head c.first in
    let keeps = a.grows.keeps in
    let ys = map (operand_in v) found.items in
    let q = reading c.head in
    let are : ys ++ operand_in w x ∷ [] ≡ map (operand_in w) longer.items =
    ap (λ (z : List meant.Operand). z ++ operand_in w x ∷ []) (sym (operands_kept v w found.items keeps r.done.there))
    ∙ sym (map-append (operand_in w) found.items (x ∷ [])) ∙ ap (map (operand_in w)) (sym e) in
    let there : AllThere w longer =
    subst (λ (z : List Operand). AreThere (term_count w.nodes) z) (sym e)
    (there_one (term_count w.nodes) found.items x (operands_there v w found.items keeps r.done.there) a.there)
    in
    record {
      rest = c.tail;
      parts = parts_kept v w ks c.tail keeps c.others;
      before = r.before >>= λ zs. read_value q >>= λ z. give (zs ++ z ∷ []);
      done = then quietly quiet_law u v w r.before
          (λ zs. read_value q >>= λ z. give (zs ++ z ∷ [])) ys _ AllThere AreOperands (Ok longer) r.done
          (then quietly quiet_law v w w (read_value q) (λ z. give (ys ++ z ∷ []))
          (operand_in w x) _ AllThere AreOperands (Ok longer) a
          (subst (λ (z : List meant.Operand). Done quietly w w (give z) (AllThere w longer) (AreOperands w longer))
          (sym are)
          (gave quietly quiet_law w (map (operand_in w) longer.items) (AllThere w longer) a.whole there)));
      is = λ s. r.is s ∙ ap (λ (rs : List Reading). (r.before >>= joined rs) s)
          (ap readings c.is ∙ readings_more c.head c.tail) ∙ turns r.before q (readings c.tail) s;
    }
