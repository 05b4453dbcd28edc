-- Words that were appended.
use Rattle.std.proofs.Common.{◌≡◌, List, [], ◌∷◌, ◌++◌, sym, ap, ◌∙◌, append_assoc}
use Rattle.std.specs.Prelude.{Result, Ok, Err, OnOk}
use Rattle.std.proofs.lemmas.List.{append-nil}
use Rattle.rv_instr.specs.declared.instr.Instr.{Instr}
use Rattle.rv_emit.specs.Growing.{Size, Puts}

pub on_both : {T E : Type 0} (r : Result T E) (P Q R : Type 0) → OnOk r P → OnOk r Q → (P → Q → R) → OnOk r R
on_both (Ok x) P Q R p q f = f p q
on_both (Err e) P Q R p q f = p

pub puts_none : (Words : List Instr → Type 0) (old : Size) → Words [] → Puts Words old old
puts_none Words old w = record { added = []; is = sym (append-nil old.text); are = w }

pub puts_map : (V W : List Instr → Type 0) (old new : Size) → ((ws : List Instr) → V ws → W ws) → Puts V old new
    → Puts W old new
puts_map V W old new f p = record { added = p.added; is = p.is; are = f p.added p.are }

pub puts_then : (V W U : List Instr → Type 0) (old mid new : Size) → Puts V old mid → Puts W mid new
    → ((a b : List Instr) → V a → W b → U (a ++ b)) → Puts U old new
puts_then V W U old mid new p q f = record {
  added = p.added ++ q.added;
  is = q.is ∙ ap (λ x. x ++ q.added) p.is ∙ append_assoc old.text p.added q.added;
  are = f p.added q.added p.are q.are;
}

-- one word
pub puts_one : (Words : List Instr → Type 0) (old new : Size) (i j : Instr) → new.text ≡ old.text ++ i ∷ [] → i ≡ j
    → Words (j ∷ []) → Puts Words old new
puts_one Words old new i j e is w = record {
  added = j ∷ [];
  is = e ∙ ap (λ x. old.text ++ x ∷ []) is;
  are = w;
}

-- words that are known
pub puts_all : (Words : List Instr → Type 0) (old new : Size) (ws : List Instr) → new.text ≡ old.text ++ ws → Words ws
    → Puts Words old new
puts_all Words old new ws e w = record { added = ws; is = e; are = w }

-- words behind words behind a text
pub more : {A : Type 0} (a b c x y : List A) → x ≡ a ++ b → y ≡ x ++ c → y ≡ a ++ (b ++ c)
more a b c x y e f = f ∙ ap (λ z. z ++ c) e ∙ append_assoc a b c

-- three words behind a text
pub three_more : {A : Type 0} (a x y z : List A) (i j k u v w : A) → x ≡ a ++ i ∷ [] → y ≡ x ++ j ∷ [] → z ≡ y ++ k ∷ []
    → i ≡ u → j ≡ v → k ≡ w → z ≡ a ++ (u ∷ v ∷ w ∷ [])
three_more a x y z i j k u v w e f g p q r =
    more a (i ∷ j ∷ []) (k ∷ []) y z (more a (i ∷ []) (j ∷ []) x y e f) g
    ∙ ap (λ n. a ++ (n ∷ j ∷ k ∷ [])) p ∙ ap (λ n. a ++ (u ∷ n ∷ k ∷ [])) q ∙ ap (λ n. a ++ (u ∷ v ∷ n ∷ [])) r
