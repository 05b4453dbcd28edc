-- Trees among nodes that grow.
use Rattle.std.proofs.Common.{◌≡◌, ℕ, zero, suc, ◌+◌, max, Bool, true, false, List, [], ◌∷◌, ◌++◌, length, Option, Some}
use Rattle.std.proofs.Common.{refl, ap, sym, subst, ◌∙◌, arith, append_assoc}
use Rattle.std.proofs.Common.{append-nil as append_nil}
use Rattle.std.specs.Prelude.{slice_get, if◌then◌else◌}
use Rattle.ck_base.specs.Tokens.{Lexeme}
use Rattle.c_tree.specs.declared.syntax.Node.{Node}
use Rattle.c_tree.specs.declared.syntax.NodeKind.{NodeKind}
use Rattle.c_tree.specs.declared.syntax.NodeKind.TheVariants as Kinds
use Rattle.c_tree.specs.Syntax.{Syn, Syns, node, nil, more, one, joined, first_token, height, highest, weight, StandsAt}
use Rattle.c_tree.specs.Syntax.{stands, StandAt, none, next}
use Rattle.c_phrases.specs.declared.cursor.Root.{Root}
use Rattle.c_phrases.specs.declared.cursor.Part.{Part}
use Rattle.c_phrases.specs.declared.cursor.Parts.{Parts}
use Rattle.c_phrases.specs.declared.cursor.Stop.{Stop}
use Rattle.c_phrases.specs.declared.cursor.Stop.TheVariants.{NoMemory, NoTree}
use Rattle.c_phrases.specs.Reading.{◌>>=◌}
use Rattle.c_phrases.specs.Got.{Describes, Means, Holds, Grows, Fails, rest_of, RunsOn, GotParts}
use Rattle.c_phrases.specs.declared.cursor.Cursor.{Cursor}

get_more : {A : Type 0} (xs ys : List A) (i : ℕ) (n : A) → slice_get xs i ≡ Some n → slice_get (xs ++ ys) i ≡ Some n
get_more [] ys i n e = cc
get_more (x ∷ xs) ys zero n e = e
get_more (x ∷ xs) ys (suc i) n e = get_more xs ys i n e

pub get_new : {A : Type 0} (xs : List A) (n : A) → slice_get (xs ++ (n ∷ [])) (length xs) ≡ Some n
get_new [] n = refl
get_new (x ∷ xs) n = get_new xs n

-- what stands in a list stands in a longer one
mutual
  stands_on : {ns : List Node} (added : List Node) {i : ℕ} {x : Syn} → StandsAt ns i x → StandsAt (ns ++ added) i x
  stands_on {ns} m (stands {i = i} {n = n} e p t f k) = stands (get_more ns m i n e) p t f (stand_on m k)

  stand_on : {ns : List Node} (added : List Node) {is : List ℕ} {xs : Syns} → StandAt ns is xs →
      StandAt (ns ++ added) is xs
  stand_on m none = none
  stand_on m (next s k) = next (stands_on m s) (stand_on m k)

pub grows_same : {ns : List Node} → Grows ns ns
grows_same {ns} = record { added = []; grown = sym (append_nil ns) }

pub grows_on : {a b c : List Node} → Grows a b → Grows b c → Grows a c
grows_on {a} g h = record {
  added = g.added ++ h.added;
  grown = h.grown ∙ ap (λ v. v ++ h.added) g.grown
      ∙ append_assoc a g.added h.added;
}

pub grows_to : {a b c : List Node} → Grows a b → b ≡ c → Grows a c
grows_to {a} g e = subst (λ v. Grows a v) e g

pub means_on : {a b : List Node} {part : Part} {x : Syn} → Grows a b → Means a part x → Means b part x
means_on {part = part} {x} g m =
    record {
      stands = subst (λ v. StandsAt v part.number x) (sym g.grown) (stands_on g.added m.stands);
      tall = m.tall;
      root = m.root;
    }

pub holds_on : {a b : List Node} {parts : Parts} {xs : Syns} → Grows a b → Holds a parts xs → Holds b parts xs
holds_on {parts = parts} {xs} g m =
    record {
      stands = subst (λ v. StandAt v parts.kids.items xs) (sym g.grown) (stand_on g.added m.stands);
      tall = m.tall;
    }

stand_then : {ns : List Node} {is : List ℕ} {xs : Syns} {i : ℕ} {x : Syn} → StandAt ns is xs → StandsAt ns i x →
    StandAt ns (is ++ (i ∷ [])) (joined xs (one x))
stand_then none s = next s none
stand_then (next t k) s = next t (stand_then k s)

max_assoc : (a b c : ℕ) → max (max a b) c ≡ max a (max b c)
max_assoc a b c = omega arith

pub highest_joined : (xs ys : Syns) → highest (joined xs ys) ≡ max (highest xs) (highest ys)
highest_joined nil ys = omega arith
highest_joined (more x xs) ys =
    ap (λ v. max (height x) v) (highest_joined xs ys) ∙ sym (max_assoc (height x) (highest xs) (highest ys))

-- one more part
pub holds_more : {ns : List Node} {old new : Parts} {part : Part} {xs : Syns} {x : Syn} → Holds ns old xs →
    Means ns part x → new.kids.items ≡ old.kids.items ++ (part.number ∷ []) → new.height ≡ max old.height part.height →
    Holds ns new (joined xs (one x))
holds_more {ns} {old} {new} {part} {xs} {x} h m kids tall = record {
  stands = subst (λ v. StandAt ns v (joined xs (one x))) (sym kids) (stand_then h.stands m.stands);
  tall = let a = h.tall in let b = m.tall in let c = highest_joined xs (one x) in omega arith;
}

pub holds_nil : {ns : List Node} {parts : Parts} → parts.kids.items ≡ [] → parts.height ≡ 0 → Holds ns parts nil
holds_nil {ns} {parts} kids tall = record { stands = subst (λ v. StandAt ns v nil) (sym kids) none; tall = tall }

pub holds_one : {ns : List Node} {parts : Parts} {part : Part} {x : Syn} → Means ns part x →
    parts.kids.items ≡ part.number ∷ [] → parts.height ≡ part.height → Holds ns parts (one x)
holds_one {ns} {parts} {part} {x} m kids tall = record {
  stands = subst (λ v. StandAt ns v (one x)) (sym kids) (next m.stands none);
  tall = let b = m.tall in omega arith;
}

pub joined_assoc : (xs ys zs : Syns) → joined (joined xs ys) zs ≡ joined xs (joined ys zs)
joined_assoc nil ys zs = refl
joined_assoc (more x xs) ys zs = ap (λ v. more x v) (joined_assoc xs ys zs)

pub joined_nil : (xs : Syns) → joined xs nil ≡ xs
joined_nil nil = refl
joined_nil (more x xs) = ap (λ v. more x v) (joined_nil xs)

-- a node that was added stands over its parts
pub made_means : {old new : List Node} {root : Root} {parts : Parts} {part : Part} (cell : Node) →
    new ≡ old ++ (cell ∷ []) → part.number ≡ length old → part.root ≡ root →
    part.height ≡ parts.height + weight root.kind →
    cell.kind ≡ root.kind → cell.pos ≡ root.own.pos → cell.text ≡ root.own.text → cell.first ≡ root.first.pos →
    cell.kids ≡ parts.kids.items →
    (t : Lexeme) (xs : Syns) → Describes root (node root.kind t xs) → Holds old parts xs →
    Means new part (node root.kind t xs)
made_means {old} {new} {root} {parts} {part} cell grown place is tall k p t f kids token xs d h =
    let cells : List Node = cell ∷ [] in
    let here : StandsAt (old ++ cells) (length old) (node cell.kind token xs) =
    stands (get_new old cell) (p ∙ d.own.pos) (t ∙ d.own.text)
    (f ∙ d.first.pos ∙ ap (λ v. (first_token (node v token xs)).pos) (sym k))
    (stand_on cells (subst (λ v. StandAt old v xs) (sym kids) h.stands)) in
    record {
      stands =
          subst (λ v. StandsAt v part.number (node root.kind token xs)) (sym grown)
          (subst (λ v. StandsAt (old ++ cells) v (node root.kind token xs)) (sym place)
          (subst (λ v. StandsAt (old ++ cells) (length old) (node v token xs)) k here));
      tall = tall ∙ ap (λ v. v + weight root.kind) h.tall;
      root = subst (λ v. Describes v (node root.kind token xs)) (sym is) d;
    }

-- Equations of what is read

pub then_is : {A : Type 0} {b : Bool} {x : A} (y : A) → b ≡ true → (if b then x else y) ≡ x
then_is {A} {b} {x} y e = ap (λ v. if v then x else y) e

pub else_is : {A : Type 0} {b : Bool} (x : A) {y : A} → b ≡ false → (if b then x else y) ≡ y
else_is {A} {b} x {y} e = ap (λ v. if v then x else y) e

pub bind_is : {A B : Type 0} {o : Option A} {x : A} (f : A → Option B) → o ≡ Some x → (o >>= f) ≡ f x
bind_is f e = ap (λ v. v >>= f) e

pub fails_same : {A : Type 0} (e : Stop) {o p : Option A} → o ≡ p → Fails e p → Fails e o
fails_same e same f = subst (Fails e) (sym same) f

pub fails_bind : {A B : Type 0} (e : Stop) (o : Option A) (f : A → Option B) → Fails e o → Fails e (o >>= f)
fails_bind NoMemory o f p = tt
fails_bind NoTree o f p = ap (λ v. v >>= f) p

pub fails_after : {A B : Type 0} (e : Stop) (o : Option A) (x : A) (f : A → Option B) → o ≡ Some x → Fails e (f x) →
    Fails e (o >>= f)
fails_after NoMemory o x f p q = tt
fails_after NoTree o x f p q = bind_is f p ∙ q

pub fails_memory : {A : Type 0} (e : Stop) (o : Option A) → e ≡ NoMemory → Fails e o
fails_memory e o same = rw same tt

-- Runs of parts

pub runs_more : {reads : List Lexeme → Syns × List Lexeme} {old now next : Cursor} {parts parts' : Parts} {part : Part}
    {x : Syn} →
    RunsOn reads old now parts → reads (rest_of now) ≡ (more x (reads (rest_of next)).0, (reads (rest_of next)).1) →
    {mid : List Node} → mid ≡ now.nodes.items → Grows mid next.nodes.items → Means next.nodes.items part x →
    parts'.kids.items ≡ parts.kids.items ++ (part.number ∷ []) → parts'.height ≡ max parts.height part.height →
    RunsOn reads old next parts'
runs_more {reads} {old} {now} {next} {x = x} r step same g' m kids tall =
    let g : Grows now.nodes.items next.nodes.items = subst (λ v. Grows v next.nodes.items) same g' in
    record {
      trees = joined r.trees (one x);
      holds = holds_more (holds_on g r.holds) m kids tall;
      same =
          r.same ∙ ap (λ v. (joined r.trees v.0, v.1)) step
          ∙ ap (λ v. (v, (reads (rest_of next)).1)) (sym (joined_assoc r.trees (one x) (reads (rest_of next)).0));
      grows = grows_on r.grows g;
    }

pub runs_end : {reads : List Lexeme → Syns × List Lexeme} {old now next : Cursor} {parts : Parts} →
    RunsOn reads old now parts → reads (rest_of now) ≡ (nil, rest_of now) → next.nodes.items ≡ now.nodes.items →
    rest_of next ≡ rest_of now → GotParts old next (Some (reads (rest_of old))) parts
runs_end {reads} {old} {now} {next} {parts} r end nodes rest = record {
  trees = r.trees;
  holds = subst (λ v. Holds v parts r.trees) (sym nodes) r.holds;
  reads = ap (λ v. Some v) (r.same ∙ ap (λ v. (joined r.trees v.0, v.1)) end
      ∙ ap (λ v. (v, rest_of now)) (joined_nil r.trees)) ∙ ap (λ v. Some (r.trees, v)) (sym rest);
  grows = grows_to r.grows (sym nodes);
}

-- a node without parts begins with its own token
pub first_leaf : (k : NodeKind) (t : Lexeme) → first_token (node k t nil) ≡ t
first_leaf Kinds.Index t = refl
first_leaf Kinds.Call t = refl
first_leaf (Kinds.Select s) t = refl
first_leaf (Kinds.Postfix s) t = refl
first_leaf (Kinds.Infix o) t = refl
first_leaf Kinds.Conditional t = refl
first_leaf (Kinds.Assignment o) t = refl
first_leaf Kinds.OpenArray t = refl
first_leaf Kinds.Array t = refl
first_leaf Kinds.Function t = refl
first_leaf _ t = refl
