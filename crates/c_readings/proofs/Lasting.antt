-- What is named goes on being named, and what stands for it.
use Rattle.std.proofs.Common.{◌≡◌, ℕ, suc, ◌<◌, ◌≤◌, List, [], ◌∷◌, map}
use Rattle.std.proofs.Common.{false, refl, sym, ap, subst, ◌∙◌, arith}
use Rattle.std.specs.Prelude.{All, bytes_eq, reverse, slice_index_or, option_map}
use Rattle.std.specs.List.{list_any}
use Rattle.ck_base.specs.declared.positions.Pos.{Pos}
use Rattle.ck_base.specs.declared.tokens.TokenKind.TheVariants.{Word}
use Rattle.ck_base.specs.Tokens.{Lexeme}
use Rattle.c_tree.specs.declared.typed.Member.{Member}
use Rattle.c_tree.specs.Types.{Ty}
use Rattle.c_tree.specs.Scopes as scopes
use Rattle.c_tree.specs.Scopes.{State}
use Rattle.c_tree.specs.Readings as meant
use Rattle.c_types.specs.Stands.{text_at}
use Rattle.c_types.specs.Declares.{storage_of}
use Rattle.c_expressions.specs.Nodes.{type_in, type_count}
use Rattle.c_elaborator.specs.declared.work.Work.{Work}
use Rattle.c_elaborator.specs.declared.work.Name.{Name}
use Rattle.c_elaborator.specs.Answers.{Keeps}
use Rattle.c_elaborator.specs.Parts.{token_of}
use Rattle.c_declarators.specs.declared.members.Members.{Members}
use Rattle.c_declarators.specs.declared.parts.Specified.{Specified}
use Rattle.c_declarators.specs.declared.parts.Param.{Param}
use Rattle.c_declarators.specs.declared.parts.Wrap.{Wrap}
use Rattle.c_declarators.specs.declared.parts.Wrap.TheVariants.{Point, Row, Gives}
use Rattle.c_declarators.specs.declared.parts.Derived.{Derived}
use Rattle.c_declarators.specs.Forming.{ParamIsThere, WrapIsThere}
use Rattle.c_declarators.specs.Parts.{SpecifiedThere, IsSpecified, ParamThere, name_token, param_in, IsDerived}
use Rattle.c_declarators.specs.Parts.{AreWraps, DerivedThere, ShowsDerived, shown_in, any_scope, MembersThere}
use Rattle.c_declarators.specs.Parts.{AllMembersThere, AreMembers, has_name}
use Rattle.c_declarators.proofs.Deriving.{derived_weaker}

pub all_weaker : {A : Type 0} (P Q : A → Type 0) (xs : List A) → ((x : A) → P x → Q x) → All P xs → All Q xs
all_weaker P Q xs f h k d lt = f (slice_index_or xs k d) (h k d lt)

-- ---- lists of types

pub types_there : (v w : Work) (ks : List ℕ) → Keeps v w → All (λ k. k < type_count v.nodes) ks →
    All (λ k. k < type_count w.nodes) ks
types_there v w ks k h = all_weaker (λ j. j < type_count v.nodes) (λ j. j < type_count w.nodes) ks
    (λ j l. let m : type_count v.nodes ≤ type_count w.nodes = k.more_types in omega arith) h

pub types_kept : (v w : Work) (ks : List ℕ) → Keeps v w → All (λ k. k < type_count v.nodes) ks →
    map (type_in w.nodes) ks ≡ map (type_in v.nodes) ks
types_kept v w [] k h = refl
types_kept v w (x ∷ xs) k h =
    ap (λ (t : Ty). t ∷ map (type_in w.nodes) xs) (k.types x (h 0 x (omega arith)))
    ∙ ap (λ (ts : List Ty). type_in v.nodes x ∷ ts) (types_kept v w xs k (λ i d l. h (suc i) d (omega arith)))

-- ---- specifiers

pub specified_there : (v w : Work) (s : Specified) → Keeps v w → SpecifiedThere v s → SpecifiedThere w s
specified_there v w s k h = let m : type_count v.nodes ≤ type_count w.nodes = k.more_types in omega arith

pub specified_kept : (v w : Work) (s : Specified) (x : meant.Specified) → Keeps v w → SpecifiedThere v s →
    IsSpecified v s x → IsSpecified w s x
specified_kept v w s x k t h =
    record { first = h.first; stored = h.stored; storage = h.storage; of = h.of ∙ sym (k.types s.of t) }

a_token : Pos → Lexeme
a_token p = record { kind = Word; text = []; span = record { start = 0; end = 0 }; pos = p }

-- some specifiers that are these
pub some_specified : (w : Work) (s : Specified) → (x : meant.Specified) × IsSpecified w s x
unfolding a_token
some_specified w s = (
  record {
    first = a_token s.first;
    stored = s.stored;
    storage = storage_of s.storage;
    of = type_in w.nodes s.of;
  },
  record { first = refl; stored = refl; storage = refl; of = refl },
)

-- ---- members

pub members_kept : (v w : Work) (ms : List Member) (xs : List scopes.Part) → Keeps v w → MembersThere v ms →
    AreMembers v ms xs → AreMembers w ms xs
members_kept v w [] [] k t h = tt
members_kept v w [] (x ∷ xs) k t h = absurd h
members_kept v w (m ∷ ms) [] k t h = absurd h
members_kept v w (m ∷ ms) (x ∷ xs) k t h =
    let l : m.of < type_count v.nodes = t 0 m (omega arith) in (
      record {
        text = h.0.text ∙ ap (λ (f : List ℕ). text_at f m.name) (sym k.file);
        span = h.0.span;
        of = h.0.of
            ∙ sym (k.types m.of l);
      },
      members_kept v w ms xs k (λ i d e. t (suc i) d (omega arith)) h.1,
    )

-- no members
pub no_members_there : (w : Work) (ms : Members) → ms.all.items ≡ [] → ((text : List ℕ) → has_name ms text ≡ false) →
    AllMembersThere w ms
no_members_there w ms e n = record {
  there = subst (λ (z : List Member). MembersThere w z) (sym e) (λ k d l. absurd (omega arith));
  names = λ text. n text ∙ ap (list_any (λ (m : Member). bytes_eq (text_at w.file.now m.name) text)) (sym e);
}

-- some members that are these
pub some_members : (w : Work) (ms : List Member) → (xs : List scopes.Part) × AreMembers w ms xs
some_members w [] = ([], tt)
some_members w (m ∷ ms) = (
  record {
    name = record {
      kind = Word;
      text = text_at w.file.now m.name;
      span = m.name;
      pos = record { line = 0; col = 0 };
    };
    of = type_in w.nodes m.of;
  } ∷ (some_members w ms).0,
  (record { text = refl; span = refl; of = refl }, (some_members w ms).1),
)

-- ---- parameters

abbrev token_in : List ℕ → Name → Lexeme
token_in f n = record { kind = Word; text = text_at f n.span; span = n.span; pos = n.pos }

pub token_kept : (v w : Work) (n : Name) → Keeps v w → token_of w n ≡ token_of v n
token_kept v w n k = ap (λ (f : List ℕ). token_in f n) k.file

abbrev param_with : List ℕ → Ty → Param → meant.Param
param_with f t p = record { name = option_map (token_in f) p.name; at = token_in f p.at; of = t; nothing = p.nothing }

pub param_kept : (v w : Work) (p : Param) → Keeps v w → ParamThere v p → param_in w p ≡ param_in v p
param_kept v w p k h = ap (λ (f : List ℕ). param_with f (type_in w.nodes p.of) p) k.file
    ∙ ap (λ (t : Ty). param_with v.file.now t p) (k.types p.of h)

pub param_there : (v w : Work) (p : Param) → Keeps v w → ParamThere v p → ParamThere w p
param_there v w p k h = let m : type_count v.nodes ≤ type_count w.nodes = k.more_types in omega arith

pub params_kept : (v w : Work) (ps : List Param) → Keeps v w → All (ParamIsThere v.nodes) ps →
    map (param_in w) ps ≡ map (param_in v) ps
params_kept v w [] k h = refl
params_kept v w (p ∷ ps) k h =
    ap (λ (x : meant.Param). x ∷ map (param_in w) ps) (param_kept v w p k (h 0 p (omega arith)))
    ∙ ap (λ (xs : List meant.Param). param_in v p ∷ xs) (params_kept v w ps k (λ i d l. h (suc i) d (omega arith)))

pub params_there : (v w : Work) (ps : List Param) → Keeps v w → All (ParamIsThere v.nodes) ps →
    All (ParamIsThere w.nodes) ps
params_there v w ps k h =
    all_weaker (ParamIsThere v.nodes) (ParamIsThere w.nodes) ps
    (λ p l. let m : type_count v.nodes ≤ type_count w.nodes = k.more_types in omega arith) h

-- ---- declarators

wrap_there : (v w : Work) (a : Wrap) → Keeps v w → WrapIsThere v.nodes a → WrapIsThere w.nodes a
wrap_there v w (Point q) k h = tt
wrap_there v w (Row n) k h = tt
wrap_there v w (Gives p) k h = params_there v w p.params.items k h

pub derived_there : (v w : Work) (d : Derived) → Keeps v w → DerivedThere v d → DerivedThere w d
derived_there v w d k h =
    all_weaker (WrapIsThere v.nodes) (WrapIsThere w.nodes) d.wraps.items (λ a t. wrap_there v w a k t) h

some_wraps : (w : Work) (xs : List Wrap) → (ys : List meant.Wrap) × AreWraps any_scope w xs ys
some_wraps w [] = ([], tt)
some_wraps w (Point q ∷ xs) = (meant.Point q ∷ (some_wraps w xs).0, (refl, (some_wraps w xs).1))
some_wraps w (Row n ∷ xs) = (meant.Row n ∷ (some_wraps w xs).0, (refl, (some_wraps w xs).1))
some_wraps w (Gives p ∷ xs) = (
  meant.Gives (record { params = map (param_in w) p.params.items; scope = record { names = []; tags = [] } })
      ∷ (some_wraps w xs).0,
  (record { params = refl; scope = tt }, (some_wraps w xs).1),
)

-- some declarator that is this one, but for the scopes of parameters
pub some_derived : (w : Work) (d : Derived) → (y : meant.Derived) × IsDerived any_scope w d y
some_derived w d = let a = some_wraps w (reverse d.wraps.items) in
    (record { name = name_token w d.name; wraps = a.0 }, record { name = refl; wraps = a.1 })

pub without_scopes : (w : Work) (d : Derived) (s : State) (y : meant.Derived) → ShowsDerived w d s y →
    IsDerived any_scope w d y
without_scopes w d s y h = derived_weaker (shown_in w s) any_scope w d y (λ c m z. tt) h
