-- The code of a function stands for it.
use Rattle.std.proofs.Common.{◌≡◌, ℕ, zero, suc, ◌+◌, ◌<◌, ◌≤◌, ◌==◌, Bool, true, false, List, [], ◌∷◌, ◌++◌}
use Rattle.std.proofs.Common.{length, map}
use Rattle.std.proofs.Common.{Option, Some, None, refl, sym, ap, ◌∙◌, subst, arith, inl, inr, if◌then◌else◌}
use Rattle.std.proofs.Common.{append-nil, get_or, take}
use Rattle.std.proofs.lemmas.List.{take_more}
use Rattle.std.specs.Prelude.{slice_get, ◌⊎◌}
use Rattle.std.proofs.lemmas.Bool.{cases_lt}
use Rattle.std.proofs.lemmas.Bool.Decides.{nat_tests}
use Rattle.std.proofs.lemmas.Option.{slice_get_within}
use Rattle.ck_int.specs.declared.kinds.IntKind.TheVariants as int
use Rattle.c_tree.specs.Layout.{bare}
use Rattle.c_tree.specs.Types as ty
use Rattle.c_tree.specs.Types.{Ty, Function}
use Rattle.c_tree.specs.Views.{IsOrdered}
use Rattle.c_tree.specs.WellTyped.{type_in, outside, FunctionFits}
use Rattle.c_tree.specs.declared.typed.CType.{CType}
use Rattle.c_tree.specs.declared.typed.CType.TheVariants as types
use Rattle.c_tree.specs.declared.typed.FunDef.{FunDef}
use Rattle.c_tree.specs.declared.typed.Typed.{Typed}
use Rattle.c_tree.specs.declared.typed.VarDef.{VarDef}
use Rattle.cheri_c_sem.specs.Expressions.{expr_tree}
use Rattle.cheri_c_sem.specs.Programs.{parameter_of, function_tree, end_of, end_of_type}
use Rattle.cheri_c_sem.specs.Tree.{Gives_zero}
use Rattle.cheri_c_sem.specs.Types.{objects_before, result_type_of}
use Rattle.tac_ir.specs.declared.code.TacFun.{TacFun}
use Rattle.tac_ir.specs.declared.code.TacKind.{TacKind}
use Rattle.tac_ir.specs.declared.code.TacKind.TheVariants as kinds
use Rattle.tac_lower.specs.declared.context.Home as places
use Rattle.tac_lower.specs.declared.context.Home.TheVariants as home
use Rattle.tac_emit.specs.declared.emitter.Emitter.{Emitter}
use Rattle.tac_lower.specs.declared.writes.Written.{Written}
use Rattle.lower_runs.specs.Expressions.{Signature}
use Rattle.lower_runs.specs.Functions.{end_code, HasEndTemp, IsEnd, IsStart, AreTaken, IsFunction}
use Rattle.lower_runs.specs.Programs.{IsCodeOf, AreCodeOf}
use Rattle.lower_runs.specs.Shortened.{IsShort}
use Rattle.lower_runs.specs.States.{Home, Scene}
use Rattle.lower_runs.specs.Statements.{Exits, IsStatement}
use Rattle.lower_runs.specs.Trees.{HasSpot}
use Rattle.tac_emit.specs.Emitted.{Keeps}
use Rattle.tac_lower.specs.Functions.{Makes}
use Rattle.tac_lower.specs.Nodes.{kept_as}
use Rattle.tac_lower.specs.Programs.{AreHomes, EndsWith, HasParameters, Stands, Standing, gives_in, taking}
use Rattle.tac_lower.specs.Scenes.{Housed, given_in}
use Rattle.tac_emit.specs.Adding as adding
use Rattle.tac_emit.specs.Adding.{Added, Emits, mark}
use Rattle.tac_lower.specs.Signed.{kept_parameter}
use Rattle.tac_lower.specs.Stating.{Routine, Leads, Sited, ShowsStatement}
use Rattle.tac_lower.specs.Tables.{kept_by, given_by}
use Rattle.tac_lower.specs.Trees.{AreCovered, signature_by, signature_of, signatures}
use Rattle.tac_lower.proofs.Homes.{kinds_more}
use Rattle.tac_lower.proofs.Signatures.{given}
use Rattle.tac_lower.proofs.Stages.{Stage, TakenFrom, entry, entry_stage, stage_scene, stage_apart, taken_from, s}
use Rattle.tac_lower.proofs.Stages.{points_below, points_counted, points_own, points_one}
use Rattle.tac_lower.proofs.Typings.{kept_is}

clash : {b : Bool} → b ≡ false → b ≡ true → ⊥
clash f t = let e : false ≡ true = sym f ∙ t in cc

-- ---- what stands behind a body

end_by : (p : Typed) (c : Option CType) → IsEnd (kept_by c) (end_of_type p c)
end_by p (Some types.Void) = tt
end_by p (Some (types.Int k n)) = refl
end_by p (Some (types.Cap k)) = refl
end_by p (Some (types.Pointer t)) = refl
end_by p None = tt
end_by p (Some c) = tt

result_is : (c : Option CType) (t : ℕ) → given_by c ≡ Some t → result_type_of c ≡ t
result_is (Some (types.Function t ps)) u e = let same : Some t ≡ Some u = e in cc
result_is None u e = absurd cc
result_is (Some c) u e = absurd cc

module _ {p : Typed} {d : FunDef} (fits : FunctionFits p d) (o : IsOrdered p) where
  abbrev gives : Option TacKind
  gives = kept_as fits.result

  gives_same : gives_in p d ≡ gives
  gives_same = ap (λ z. (signature_by z).gives) fits.type_is

  ends_plain : IsEnd (gives_in p d) (end_of_type p (bare p.types (result_type_of (bare p.types d.of))))
  ends_plain =
      let n = given p o d.of fits.result fits.takes fits.type_is in
      let number = result_is (bare p.types d.of) n.type n.is in
      let kind : kept_by (bare p.types n.type) ≡ gives_in p d =
      kept_is p o n.type ∙ ap kept_as n.names ∙ sym gives_same in
      subst (λ z. IsEnd (gives_in p d) (end_of_type p (bare p.types z))) (sym number)
      (subst (λ z. IsEnd z (end_of_type p (bare p.types n.type))) kind (end_by p (bare p.types n.type)))

  ends_are : (n : ℕ) → (n ≡ p.main → gives_in p d ≡ Some (kinds.Int int.I32)) →
      IsEnd (gives_in p d) (end_of p n d.of)
  ends_are n main = by (n == p.main) refl
    where
      by : (b : Bool) → (n == p.main) ≡ b → IsEnd (gives_in p d)
          (if b then Gives_zero else end_of_type p (bare p.types (result_type_of (bare p.types d.of))))
      by true e =
          let same : n ≡ p.main = grind (arith, nat_tests) in
          subst (λ z. IsEnd z Gives_zero) (sym (main same)) refl
      by false e = ends_plain

-- ---- the function

module _ (p : Typed) (d : FunDef) (n : ℕ) (fits : FunctionFits p d) (o : IsOrdered p)
    (there : slice_get p.funs n ≡ Some d) (standing : Standing p) (writes : List Written) (homes : List places.Home)
    (fixed : ℕ) (covered : AreCovered writes (expr_tree p d.vars)) (h : AreHomes p d homes fixed)
    (many : length homes ≡ length d.vars) (few : length d.params ≤ length d.vars) where
  abbrev at : Stands p n d
  at = standing.functions n d there

  sited : (size limit : ℕ) (g : Scene) → Stage p d writes homes fixed h many (length d.params) size limit g →
      fixed ≤ size → Sited (s p d writes homes fixed h many) g
  sited size limit g st room = record {
    suits = record {
      fixed = st.fixed_is;
      written = covered.each;
      placed = at.placed;
      value = λ x t k q. let v = h.value x t k q in (v.0, st.there x t k q (cases_lt x (length d.params)), v.1);
      object = λ x m t q. let v = h.object x m t q in (
        v.0,
        v.1,
        λ u e. let z = st.spot m u e in
            points_one p d writes homes fixed h many z.0 x m u t z.1 q,
      );
      calls = standing.calls;
      types = standing.types;
      small = at.small;
      located = λ t k w r. record {
        none = λ u v. clash (at.located t k v.number w r v.names) (h.value v.number u v.kind v.home).0;
      };
      handed = λ t k a j of w i e. record {
        none = λ u v. clash (at.handed t k a j v.number of w i e v.names) (h.value v.number u v.kind v.home).0;
      };
      records = standing.records;
      passed = standing.passed;
    };
    scene = stage_scene p d writes homes fixed h many (length d.params) size limit g st room;
    below = λ x m t q. let l = points_below p d writes homes fixed h many x m t q in omega (arith, l, st.fixed_is);
    counted = λ x m t q. let l = points_counted p d writes homes fixed h many x m t q in omega (arith, l, st.objects);
    own = points_own p d writes homes fixed h many;
    one = points_one p d writes homes fixed h many;
    apart = stage_apart p d writes homes fixed h many (length d.params) size limit g st room;
    spots = λ m t e. let z = st.spot m t e in (z.0, z.1);
    initial = standing.initial;
  }

  abbrev r : Routine
  r = record {
    setting = s p d writes homes fixed h many;
    params = length d.params;
    gives = kept_as (given_in (type_in p d.of));
  }

  abbrev no_exits : Exits
  no_exits = record { breaks = None; continues = None }

  leads : Leads outside no_exits
  leads = record { breaks = λ e. absurd cc; continues = λ e. absurd cc }

  bare_same : (t : Ty) → kept_as (ty.bare t) ≡ kept_as t
  bare_same (ty.Const t) = refl
  bare_same t = refl

  gives_is : kept_as (given_in (type_in p d.of)) ≡ gives_in p d
  gives_is = ap (λ z. kept_as (given_in z)) fits.type_is ∙ bare_same fits.result
      ∙ sym (ap (λ z. (signature_by z).gives) fits.type_is)

  abbrev sign : Signature
  sign = signatures p n

  sign_gives : gives_in p d ≡ sign.gives
  sign_gives = sym (ap (λ z. (signature_of p z).gives) there)

  parameters : (g : Scene) (size limit : ℕ) →
      Stage p d writes homes fixed h many (length d.params) size limit g → HasParameters d g
  parameters g size limit st x l e = by (slice_get homes x) refl
    where
      no_home : (hs : List places.Home) (x : ℕ) → x < length hs → slice_get hs x ≡ None → ⊥
      no_home [] x l e = omega arith
      no_home (v ∷ hs) zero l e = cc
      no_home (v ∷ hs) (suc x) l e = no_home hs x (omega arith) e

      has : (z : Option ℕ) (t : ℕ) → z ≡ Some t → HasSpot z
      has (Some u) t q = tt
      has None t q = absurd cc

      by : (u : Option places.Home) → slice_get homes x ≡ u → HasSpot (g.spot (objects_before d.vars x))
      by None q = absurd (no_home homes x (omega (arith, l, many, few)) q)
      by (Some (home.Temp t k)) q = absurd (clash e (h.value x t k q).0)
      by (Some (home.Object m t)) q =
          let there = st.reached x m t q l in
          has (g.spot (objects_before d.vars x)) t (ap g.spot (h.object x m t q).1 ∙ there)

  module _ (a b c e : Emitter) (f : TacFun) (housed : Housed p d homes a) (begins : a.code.items ≡ [])
      (temps : length a.kinds.items ≡ fixed) (below : length d.params ≤ fixed)
      (taken : Emits a b 0 (taking homes (kept_parameter p d) d.pos d.params 0))
      (body : ShowsStatement r d.body no_exits b c) (keeps : Keeps a.kinds.items e.kinds.items)
      (ending : Keeps c.kinds.items e.kinds.items) (ends : EndsWith (gives_in p d) c e) (makes : Makes d e f) where
    abbrev size : ℕ
    size = length e.kinds.items

    room : fixed ≤ size
    room = omega (arith, temps, kinds_more keeps)

    abbrev begin : ℕ → Scene
    begin limit = entry p d writes homes fixed h many size limit

    first : (limit : ℕ) → Stage p d writes homes fixed h many 0 size limit (begin limit)
    first limit = entry_stage p d writes homes fixed h many size limit

    all : (limit : ℕ) → TakenFrom p d writes homes fixed h many 0 size limit d.params (begin limit)
    all limit = taken_from p d writes homes fixed h many o size limit room few d.params 0 (begin limit) (first limit)
        (λ j x q. let l = slice_get_within d.params j x q in
        let both : Some x ≡ Some j = sym q ∙ fits.params_first j l in
        let same : x ≡ j = cc in omega arith) (omega arith)

    kind_there : (x t : ℕ) (k : TacKind) → slice_get homes x ≡ Some (home.Temp t k) →
        slice_get e.kinds.items t ≡ Some k
    kind_there x t k q = by (slice_get d.vars x) refl
      where
        no_var : (vs : List VarDef) (x : ℕ) → x < length vs → slice_get vs x ≡ None → ⊥
        no_var [] x l e = omega arith
        no_var (v ∷ vs) zero l e = cc
        no_var (v ∷ vs) (suc x) l e = no_var vs x (omega arith) e

        by : (v : Option VarDef) → slice_get d.vars x ≡ v → slice_get e.kinds.items t ≡ Some k
        by None i = absurd (no_var d.vars x (omega (arith, slice_get_within homes x _ q, many)) i)
        by (Some v) i = keeps.kept t k (housed.stand x (home.Temp t k) v q i).0.there

    length_kept : (xs : List ℕ) → length (map (kept_parameter p d) xs) ≡ length xs
    length_kept [] = refl
    length_kept (x ∷ xs) = ap suc (length_kept xs)

    start : (limit : ℕ) → IsStart e.kinds.items (map (kept_parameter p d) d.params) (function_tree p n d) limit
        (begin limit)
    start limit = record {
      scene = stage_scene p d writes homes fixed h many 0 size limit (begin limit) (first limit) room;
      size = refl;
      count = refl;
      objects = refl;
      limited = refl;
      few = omega (arith, length_kept d.params, room, below);
      spots = λ m t q. absurd cc;
      homes = λ x u q.
          let is = (first limit).held x u q in (
            later x u (h.placed x (home.Temp u.temp u.kind) is) ((first limit).behind x u q),
            kind_there x u.temp u.kind is,
          );
    }
      where
        later : (x : ℕ) (u : Home) → ((x < length d.params) × (u.temp ≡ x)) ⊎
            ((length d.params ≤ x) × (length d.params ≤ u.temp)) → (x < 0) ⊎ (length d.params ≤ x) →
            length (map (kept_parameter p d) d.params) ≤ u.temp
        later x u i (inl l) = absurd (omega arith)
        later x u (inl i) (inr l) = absurd (omega (arith, i.0))
        later x u (inr i) (inr l) = omega (arith, length_kept d.params, i.1)

    abbrev whole : TacFun
    whole = record {
      name = d.pos;
      params = f.params;
      temps = f.temps;
      kinds = e.kinds.items;
      code = c.code.items ++ end_code (gives_in p d) ends.at;
    }

    take_code : c.code.items ++ end_code (gives_in p d) ends.at
        ≡ taking homes (kept_parameter p d) d.pos d.params 0 (body.code (end_code (gives_in p d) ends.at))
    take_code =
        let end = end_code (gives_in p d) ends.at in
        body.added.is end ∙ taken.added.is (body.code end)
        ∙ ap (λ z. z ++ taking homes (kept_parameter p d) d.pos d.params 0 (body.code end)) begins

    runs : (limit : ℕ) → IsFunction p (signatures p) (Some whole) n (function_tree p n d) limit
    runs limit =
        let t = all limit in
        let inner = t.inner in
        let scene = sited size limit inner t.stage room in
        let does = at.does r refl refl inner (parameters inner size limit t.stage) in
        let is = body.is inner e.kinds.items scene ending outside leads does in
        let end = end_code (gives_in p d) ends.at in
        record {
          entry = begin limit;
          inner = inner;
          take = taking homes (kept_parameter p d) d.pos d.params 0;
          body = body.code;
          from = mark b;
          to = mark c;
          start = subst (λ z. IsStart e.kinds.items z (function_tree p n d) limit (begin limit)) (sym at.takes)
              (start limit);
          taken = subst (λ z. AreTaken d.pos (begin limit) 0 (map (parameter_of p d.vars) d.params) z inner
              (taking homes (kept_parameter p d) d.pos d.params 0)) (sym at.takes) t.is;
          statement = subst (λ z. IsStatement p (signatures p) e.kinds.items z inner no_exits
              (let b = function_tree p n d in b.body) (mark b) (mark c) body.code) (gives_is ∙ sign_gives) is;
          low = omega (arith, taken.temps, temps);
          high = kinds_more ending;
          at = ends.at;
          room = subst (λ z. HasEndTemp z ends.at size) sign_gives ends.room;
          code = take_code ∙ ap (λ z. taking homes (kept_parameter p d) d.pos d.params 0
              (body.code (end_code z ends.at))) sign_gives;
          ends = subst (λ z. IsEnd z (end_of p n d.of)) sign_gives (ends_are fits o n at.main);
          name = refl;
        }

    pub function_is : IsCodeOf p (signatures p) n d f
    function_is = record {
      whole = whole;
      short = record {
        name = makes.name;
        kinds = makes.kinds;
        code = subst (λ z. IsShort z (c.code.items ++ end_code (gives_in p d) ends.at)) (sym makes.code) ends.short;
      };
      function = runs;
    }

-- no code so far
pub code_none : {a b c : Emitter} → Added a b adding.none → Added b c adding.none → a.code.items ≡ [] →
    c.code.items ≡ []
code_none {a = a} {b = b} {c = c} f g e =
    sym (append-nil c.code.items) ∙ g.is [] ∙ f.is [] ∙ append-nil a.code.items ∙ e

-- ---- the functions of a program

codes_more : (p : Typed) (signs : ℕ → Signature) (m : ℕ) (ds : List FunDef) (fs : List TacFun) (d : FunDef)
    (f : TacFun) →
    AreCodeOf p signs m ds fs → IsCodeOf p signs (m + length ds) d f → AreCodeOf p signs m (ds ++ d ∷ []) (fs ++ f ∷ [])
codes_more p signs m [] [] d f h g =
    let e : m + length {A = FunDef} [] ≡ m = omega arith in (subst (λ z. IsCodeOf p signs z d f) e g, tt)
codes_more p signs m [] (k ∷ fs) d f h g = absurd h
codes_more p signs m (c ∷ ds) [] d f h g = absurd h
codes_more p signs m (c ∷ ds) (k ∷ fs) d f h g =
    let e : m + length (c ∷ ds) ≡ suc m + length ds = omega arith in
    (h.0, codes_more p signs (suc m) ds fs d f h.1 (subst (λ z. IsCodeOf p signs z d f) e g))

length_take : (ds : List FunDef) (i : ℕ) → i < length ds → length (take i ds) ≡ i
length_take [] i l = absurd (omega arith)
length_take (y ∷ ds) zero l = refl
length_take (y ∷ ds) (suc i) l = let r = length_take ds i (omega arith) in omega (arith, r)

pub codes_next : (p : Typed) (signs : ℕ → Signature) (xs : List FunDef) (i : ℕ) (d : FunDef) (fs : List TacFun)
    (f : TacFun) → i < length xs → d ≡ get_or xs i d → AreCodeOf p signs 0 (take i xs) fs → IsCodeOf p signs i d f →
    AreCodeOf p signs 0 (take (i + 1) xs) (fs ++ f ∷ [])
codes_next p signs xs i d fs f lt is h g =
    let more : take (i + 1) xs ≡ take i xs ++ d ∷ [] = take_more xs i d lt ∙ ap (λ z. take i xs ++ z ∷ []) (sym is) in
    let number : i ≡ 0 + length (take i xs) = omega (arith, length_take xs i lt) in
    subst (λ z. AreCodeOf p signs 0 z (fs ++ f ∷ [])) (sym more)
    (codes_more p signs 0 (take i xs) fs d f h (subst (λ z. IsCodeOf p signs z d f) number g))
