-- Each statement from the answers of its parts.
use Rattle.std.proofs.Common.{◌≡◌, ℕ, zero, suc, ◌<◌, Bool, true, false, Option, Some, None, List, [], ◌∷◌, ◌++◌}
use Rattle.std.proofs.Common.{length, map, Result, Ok, Err, refl, sym, ap, subst, ◌∙◌, arith}
use Rattle.std.specs.Prelude.{not, if◌then◌else◌, slice_get}
use Rattle.std.proofs.lemmas.List.{length-map}
use Rattle.ck_base.specs.declared.positions.Pos.{Pos}
use Rattle.ck_base.specs.declared.refusal.Refusal.{Refusal}
use Rattle.ck_base.specs.declared.refusal.Refusal.TheVariants.{Code}
use Rattle.c_tree.specs.declared.typed.StmtKind.{StmtKind}
use Rattle.c_tree.specs.declared.typed.StmtKind.TheVariants as stmts
use Rattle.c_tree.specs.Terms.{Term, type_of, terms, no_terms, Action, actions, no_actions, Evaluate, If}
use Rattle.c_tree.specs.Terms.{While, Do, For, Switch, Return}
use Rattle.c_tree.specs.Terms as tree
use Rattle.c_tree.specs.Syntax.{Syn}
use Rattle.c_tree.specs.Types.{Ty, is_void, is_integer, promoted}
use Rattle.c_tree.specs.Conversions as meant_operands
use Rattle.c_tree.specs.Conversions.{assigned, operand_type, converted_term}
use Rattle.c_tree.specs.Declarations.{no_items}
use Rattle.c_tree.specs.Readings as meant
use Rattle.c_tree.specs.Readings.{Reading}
use Rattle.c_tree.specs.Scopes.{Doing, give, need, ◌>>=◌, ◌>>◌}
use Rattle.c_tree.specs.Expressions.{read_value}
use Rattle.c_tree.specs.Statements.{test, is_absent, optional_test, optional_step, substatement, does, one_term}
use Rattle.c_tree.specs.Statements.{one_action, block_action, all_items, for_action, list_terms, has_one}
use Rattle.c_tree.specs.Statements as statements
use Rattle.c_tree.specs.Views.{kind_action, terms_of, term_at, listed, is_some, same_number}
use Rattle.c_expressions.specs.Nodes.{IsWhole, type_in, term_in, term_count}
use Rattle.c_expressions.specs.declared.nodes.Operand.{Operand}
use Rattle.c_expressions.specs.declared.nodes.Nodes.{Nodes}
use Rattle.c_expressions.specs.Nodes as nodes
use Rattle.c_expressions.proofs.Keeping.{keeps_then as nodes_then}
use Rattle.c_elaborator.proofs.Growing.{quiet_nodes, shows_nodes}
use Rattle.c_elaborator.specs.declared.work.Work.{Work}
use Rattle.c_elaborator.specs.Work.{ValuesAreThere}
use Rattle.c_elaborator.specs.Answers.{Keeps, quietly, freely, Done, Answers, OperandThere, IsOperand, operand_in}
use Rattle.c_elaborator.specs.Answers.{TermThere}
use Rattle.c_elaborator.specs.Answers.{IsTerm, action_in}
use Rattle.c_elaborator.proofs.Sequencing.{quiet_law, free_law, freed, then as and_then, then_by, failed, gave}
use Rattle.c_elaborator.proofs.Sequencing.{answers_at}
use Rattle.c_elaborator.proofs.Sequencing.{keeps_then, still_same, need_true}
use Rattle.c_elaborator.specs.declared.items.Items.{Items}
use Rattle.c_plain_rules.specs.declared.loops.Head.{Head}
use Rattle.c_plain_rules.specs.Cases.{Cases}
use Rattle.c_statements.specs.declared.labels.Controlling.{Controlling}
use Rattle.c_elaborator.specs.Items.{ValuesThere, ActionThere, ActionsThere, IsOnlyAction, ItemsThere, OnlyThere}
use Rattle.c_elaborator.specs.Items.{IsItems}
use Rattle.c_elaborator.specs.Items.{items_in}
use Rattle.c_statements.specs.Statements.{evaluate_one, IsJump, jump_form, jumping, switched, return_one, MaybeThere}
use Rattle.c_statements.specs.Statements.{IsMaybe, maybe_term, HeadThere, IsHead, head_in, ForHead, SwitchedOn}
use Rattle.c_statements.specs.Statements.{IsPromoted, SwitchedThere, IsSwitched, switched_on, CasesThere, IsCases}
use Rattle.c_statements.specs.Statements.{cases_in}
use Rattle.c_plain_rules.specs.Control.{for_of, switch_of}
use Rattle.c_elaborator.proofs.Going.{none_there, one_there, then_from, items_kept, actions_there, term_there}

-- the statement of a kind is added to this work
abbrev pub Adds : Work → Work → StmtKind → Pos → Result Items Refusal → Type 0
Adds v w k p r = Answers freely v w (give (one_action (kind_action (terms_of v.nodes.p) k p (action_in v)))) OnlyThere
    IsItems r

pub evaluates : (u v w : Work) (r : Reading) (p : Pos) (a : Operand) (z : Result Items Refusal) →
    Done quietly u v (read_value r) (OperandThere v a) (IsOperand v a) → Adds v w (stmts.Expr a.node) p z →
    Answers freely u w (evaluate_one r p) OnlyThere IsItems z
evaluates u v w r p a z h k =
    and_then freely free_law u v w (read_value r) (λ x. does Evaluate (one_term x.is) no_actions p) (operand_in v a)
    (OperandThere v a) OnlyThere IsItems z (freed u v (read_value r) OperandThere IsOperand (Ok a) h) k

pub same_block : (u w : Work) (xs ys fs gs : List ℕ) (p : Pos) (r : Result Items Refusal) → xs ≡ ys → fs ≡ gs →
    Adds u w (stmts.Block xs fs) p r → Adds u w (stmts.Block ys gs) p r
same_block u w xs ys fs gs p r e h a =
    subst (λ (zs : List ℕ). Adds u w (stmts.Block zs gs) p r) e
    (subst (λ (zs : List ℕ). Adds u w (stmts.Block xs zs) p r) h a)

pub blocks : (u v w : Work) (c : meant.Context) (rs : List Reading) (p : Pos) (i : Items) (z : Result Items Refusal) →
    Done freely u v (all_items c rs) (ItemsThere v i) (IsItems v i) →
    Adds v w (stmts.Block i.vars.items i.actions.items) p z →
    Answers freely u w (all_items c rs >>= λ i. give (one_action (block_action i p))) OnlyThere IsItems z
blocks u v w c rs p i z h k =
    and_then freely free_law u v w (all_items c rs) (λ i. give (one_action (block_action i p))) (items_in v i)
    (ItemsThere v i) OnlyThere IsItems z h k

pub ifs : (u v w x : Work) (c : meant.Context) (r q : Reading) (p : Pos) (a b : ℕ) (z : Result Items Refusal) →
    Done quietly u v (test r) (TermThere v a) (IsTerm v a) →
    Done freely v w (substatement c q) (ActionThere w b) (IsOnlyAction w b) → Adds w x (stmts.If a b None) p z →
    Answers freely u x (test r >>= λ t. substatement c q >>= λ y. does If (one_term t) (actions y) p) OnlyThere IsItems
    z
ifs u v w x c r q p a b z h k d =
    and_then freely free_law u v x (test r) (λ t. substatement c q >>= λ y. does If (one_term t) (actions y) p)
    (term_in v.nodes a) (TermThere v a) OnlyThere IsItems z (freed u v (test r) TermThere IsTerm (Ok a) h)
    (then_by freely free_law v w x (substatement c q) (λ y. does If (one_term (term_in v.nodes a)) (actions y) p)
    (does If (one_term (term_in w.nodes a)) (actions (action_in w b ∷ [])) p) (ActionThere w b)
    (IsOnlyAction w b) OnlyThere IsItems z k
    (λ s y t e. ap (λ ys. does If (one_term (term_in v.nodes a)) (actions ys) p s) e
    ∙ ap (λ t. does If (one_term t) (actions (action_in w b ∷ [])) p s) (sym (k.grows.terms a h.there)))
    d)

pub whiles : (u v w x : Work) (c : meant.Context) (r q : Reading) (p : Pos) (a b : ℕ) (z : Result Items Refusal) →
    Done quietly u v (test r) (TermThere v a) (IsTerm v a) →
    Done freely v w (substatement c q) (ActionThere w b) (IsOnlyAction w b) → Adds w x (stmts.While a b) p z →
    Answers freely u x (test r >>= λ t. substatement c q >>= λ y. does While (one_term t) (actions y) p) OnlyThere
    IsItems z
whiles u v w x c r q p a b z h k d =
    and_then freely free_law u v x (test r) (λ t. substatement c q >>= λ y. does While (one_term t) (actions y) p)
    (term_in v.nodes a) (TermThere v a) OnlyThere IsItems z (freed u v (test r) TermThere IsTerm (Ok a) h)
    (then_by freely free_law v w x (substatement c q) (λ y. does While (one_term (term_in v.nodes a)) (actions y) p)
    (does While (one_term (term_in w.nodes a)) (actions (action_in w b ∷ [])) p) (ActionThere w b)
    (IsOnlyAction w b) OnlyThere IsItems z k
    (λ s y t e. ap (λ ys. does While (one_term (term_in v.nodes a)) (actions ys) p s) e
    ∙ ap (λ t. does While (one_term t) (actions (action_in w b ∷ [])) p s) (sym (k.grows.terms a h.there)))
    d)

pub ifs_else : (u v w x y : Work) (c : meant.Context) (r q o : Reading) (p : Pos) (a b e : ℕ)
    (z : Result Items Refusal) → Done quietly u v (test r) (TermThere v a) (IsTerm v a) →
    Done freely v w (substatement c q) (ActionThere w b) (IsOnlyAction w b) →
    Done freely w x (substatement c o) (ActionThere x e) (IsOnlyAction x e) → Adds x y (stmts.If a b (Some e)) p z →
    Answers freely u y (test r >>= λ t. substatement c q >>= λ fs. substatement c o
    >>= λ bs. does If (one_term t) (actions (fs ++ bs)) p) OnlyThere IsItems z
ifs_else u v w x y c r q o p a b e z h k l d =
    let first : Term = term_in v.nodes a in
    let m = k.grows.more_terms in
    let n = h.there in
    let known : term_in x.nodes a ≡ first = l.grows.terms a (omega arith) ∙ k.grows.terms a n in
    and_then freely free_law u v y (test r) (λ t. substatement c q >>= λ fs. substatement c o
    >>= λ bs. does If (one_term t) (actions (fs ++ bs)) p) first (TermThere v a) OnlyThere IsItems z
    (freed u v (test r) TermThere IsTerm (Ok a) h)
    (then_by freely free_law v w y (substatement c q)
    (λ fs. substatement c o >>= λ bs. does If (one_term first) (actions (fs ++ bs)) p)
    (substatement c o >>= λ bs. does If (one_term first) (actions (action_in w b ∷ bs)) p) (ActionThere w b)
    (IsOnlyAction w b) OnlyThere IsItems z k
    (λ s fs t g. ap (λ cs. (substatement c o >>= λ bs. does If (one_term first) (actions (cs ++ bs)) p) s) g)
    (then_from freely free_law w x y (substatement c o)
    (λ bs. does If (one_term first) (actions (action_in w b ∷ bs)) p)
    (does If (one_term (term_in x.nodes a)) (actions (action_in x b ∷ action_in x e ∷ [])) p) (ActionThere x e)
    (IsOnlyAction x e) OnlyThere IsItems z l
    (λ n s bs m t g.
    ap (λ cs. does If (one_term first) (actions (action_in w b ∷ cs)) p s) g
    ∙ ap (λ f. does If (one_term first) (actions (f ∷ action_in x e ∷ [])) p s)
    (sym (l.grows.actions m.closed.values b k.there))
    ∙ ap (λ t. does If (one_term t) (actions (action_in x b ∷ action_in x e ∷ [])) p s) (sym known))
    d))

pub dos : (u v w x : Work) (c : meant.Context) (r q : Reading) (p : Pos) (a b : ℕ) (z : Result Items Refusal) →
    Done freely u v (substatement c r) (ActionThere v b) (IsOnlyAction v b) →
    Done quietly v w (test q) (TermThere w a) (IsTerm w a) → Adds w x (stmts.Do b a) p z →
    Answers freely u x (substatement c r >>= λ y. test q >>= λ t. does Do (one_term t) (actions y) p) OnlyThere IsItems
    z
dos u v w x c r q p a b z k h d =
    then_by freely free_law u v x (substatement c r) (λ y. test q >>= λ t. does Do (one_term t) (actions y) p)
    (test q >>= λ t. does Do (one_term t) (actions (action_in v b ∷ [])) p) (ActionThere v b)
    (IsOnlyAction v b) OnlyThere IsItems z k
    (λ s y t e. ap (λ ys. (test q >>= λ t. does Do (one_term t) (actions ys) p) s) e)
    (then_from freely free_law v w x (test q) (λ t. does Do (one_term t) (actions (action_in v b ∷ [])) p)
    (does Do (one_term (term_in w.nodes a)) (actions (action_in w b ∷ [])) p) (TermThere w a)
    (IsTerm w a) OnlyThere IsItems z (freed v w (test q) TermThere IsTerm (Ok a) h)
    (λ n s t m g e.
    ap (λ t. does Do (one_term t) (actions (action_in v b ∷ [])) p s) e
    ∙ ap (λ f. does Do (one_term (term_in w.nodes a)) (actions (f ∷ [])) p s)
    (sym (h.grows.keeps.actions m.closed.values b k.there)))
    d)

-- ---- for

maybe_kept : (u v : Work) (o : Option ℕ) → ((k : ℕ) → k < term_count u.nodes → term_in v.nodes k ≡ term_in u.nodes k) →
    MaybeThere u o → maybe_term v o ≡ maybe_term u o
maybe_kept u v None h t = refl
maybe_kept u v (Some k) h t = ap (λ x. x ∷ []) (h k t)

maybe_some : (w : Work) (o : Option ℕ) → has_one (maybe_term w o) ≡ is_some o
maybe_some w None = refl
maybe_some w (Some k) = refl

-- ---- return

pub returns_value : (u v w x : Work) (c : meant.Context) (r : Reading) (p : Pos) (a : Operand) (k : ℕ)
    (z : Result Items Refusal) → Done quietly u v (read_value r) (OperandThere v a) (IsOperand v a) →
    is_void c.gives ≡ false →
    Done quietly v w (assigned c.gives (operand_in v a)) (TermThere w k) (IsTerm w k) →
    Adds w x (stmts.Return (Some k)) p z → Answers freely u x (return_one c p r) OnlyThere IsItems z
returns_value u v w x c r p a k z h n g d =
    and_then freely free_law u v x (read_value r)
    (λ o. need (not (is_void c.gives)) 133 p >> assigned c.gives o >>= λ y. does Return (one_term y) no_actions p)
    (operand_in v a) (OperandThere v a) OnlyThere IsItems z
    (freed u v (read_value r) OperandThere IsOperand (Ok a) h)
    (ap_answers
    (and_then freely free_law v w x (assigned c.gives (operand_in v a)) (λ y. does Return (one_term y) no_actions p)
    (term_in w.nodes k) (TermThere w k) OnlyThere IsItems z
    (freed v w (assigned c.gives (operand_in v a)) TermThere IsTerm (Ok k) g) d))
  where
    ap_answers : Answers freely v x (assigned c.gives (operand_in v a) >>= λ y. does Return (one_term y) no_actions p)
        OnlyThere IsItems z → Answers freely v x
        (need (not (is_void c.gives)) 133 p >> assigned c.gives (operand_in v a)
        >>= λ y. does Return (one_term y) no_actions p) OnlyThere IsItems z
    ap_answers q = answers_at freely v x _ _ OnlyThere IsItems z
        (λ s t. ap (λ b. (need (not b) 133 p >> assigned c.gives (operand_in v a)
        >>= λ y. does Return (one_term y) no_actions p) s) n) q

-- ---- switch

pub switches : (u v w x : Work) (r : Reading) (d : Ty → Doing statements.Cases) (p : Pos) (on : Controlling)
    (cs : Cases) (z : Result Items Refusal) → Done quietly u v (switched r) (SwitchedThere v on) (IsSwitched v on) →
    Done freely v w (d (type_in v.nodes on.of)) (CasesThere w cs) (IsCases w cs) →
    Adds w x (switch_of on.value cs) p z →
    Answers freely u x (switched r >>= λ o. d o.of
    >>= λ cases. does (Switch cases.items.vars cases.labels) (one_term o.value) (actions cases.items.actions) p)
    OnlyThere IsItems z
switches u v w x r d p on cs z h k a =
    and_then freely free_law u v x (switched r)
    (λ o. d o.of >>= λ cases. does (Switch cases.items.vars cases.labels) (one_term o.value)
    (actions cases.items.actions) p) (switched_on v on) (SwitchedThere v on) OnlyThere IsItems z
    (freed u v (switched r) SwitchedThere IsSwitched (Ok on) h)
    (then_by freely free_law v w x (d (type_in v.nodes on.of))
    (λ cases. does (Switch cases.items.vars cases.labels) (one_term (term_in v.nodes on.value))
    (actions cases.items.actions) p)
    (does (Switch (cases_in w cs).items.vars (cases_in w cs).labels) (one_term (term_in w.nodes on.value))
    (actions (cases_in w cs).items.actions) p) (CasesThere w cs) (IsCases w cs) OnlyThere IsItems z k
    (λ s y t e.
    ap (λ (y : statements.Cases). does (Switch y.items.vars y.labels) (one_term (term_in v.nodes on.value))
    (actions y.items.actions) p s) e
    ∙ ap (λ t. does (Switch (cases_in w cs).items.vars (cases_in w cs).labels) (one_term t)
    (actions (cases_in w cs).items.actions) p s) (sym (k.grows.terms on.value h.there.1)))
    a)

-- ---- for

two_there : (n a b : ℕ) → a < n → b < n → (j k : ℕ) → slice_get (a ∷ b ∷ []) j ≡ Some k → k < n
two_there n a b p q zero k e = let g : a ≡ k = cc in rw (← g) p
two_there n a b p q (suc j) k e = one_there n b q j k e

listed_both : (w : Work) (a b : Option ℕ) →
    terms (listed (term_at (terms_of w.nodes.p)) a ++ listed (term_at (terms_of w.nodes.p)) b)
    ≡ list_terms (maybe_term w a ++ maybe_term w b)
listed_both w None None = refl
listed_both w None (Some b) = refl
listed_both w (Some a) None = refl
listed_both w (Some a) (Some b) = refl

for_kind_is : (w : Work) (h : Head) (b : ℕ) (p : Pos) →
    kind_action (terms_of w.nodes.p) (for_of h b) p (action_in w)
    ≡ for_action (items_in w h.items) (maybe_term w h.test) (maybe_term w h.step) (action_in w b ∷ []) p
for_kind_is w h b p =
    let vars = h.items.vars.items in
    let first = h.items.actions.items in
    let body = actions (map (action_in w) first ++ action_in w b ∷ []) in
    ap (λ n. tree.action (For vars n (is_some h.test) (is_some h.step))
    (terms (listed (term_at (terms_of w.nodes.p)) h.test ++ listed (term_at (terms_of w.nodes.p)) h.step)) body p)
    (sym (length-map first (action_in w)))
    ∙ ap (λ m. tree.action (For vars (length (map (action_in w) first)) m (is_some h.step))
    (terms (listed (term_at (terms_of w.nodes.p)) h.test ++ listed (term_at (terms_of w.nodes.p)) h.step)) body p)
    (sym (maybe_some w h.test))
    ∙ ap (λ m. tree.action (For vars (length (map (action_in w) first)) (has_one (maybe_term w h.test)) m)
    (terms (listed (term_at (terms_of w.nodes.p)) h.test ++ listed (term_at (terms_of w.nodes.p)) h.step)) body p)
    (sym (maybe_some w h.step))
    ∙ ap (λ t. tree.action (For vars (length (map (action_in w) first)) (has_one (maybe_term w h.test))
    (has_one (maybe_term w h.step))) t body p) (listed_both w h.test h.step)

head_kept : (u v : Work) (h : Head) → Keeps u v → ValuesAreThere u → HeadThere u h → head_in v h ≡ head_in u h
head_kept u v h k y t =
    ap (λ i. (let x : ForHead = record { items = i; test = maybe_term v h.test; step = maybe_term v h.step } in x))
    (items_kept u v h.items k y t.0)
    ∙ ap (λ m. (let x : ForHead = record { items = items_in u h.items; test = m; step = maybe_term v h.step } in x))
    (maybe_kept u v h.test k.terms t.1)
    ∙ ap (λ m. (let x : ForHead = record { items = items_in u h.items; test = maybe_term u h.test; step = m } in x))
    (maybe_kept u v h.step k.terms t.2)

pub fors : (u v w x : Work) (d : Doing ForHead) (c : meant.Context) (r : Reading) (p : Pos) (h : Head) (b : ℕ)
    (z : Result Items Refusal) → Done freely u v d (HeadThere v h) (IsHead v h) →
    Done freely v w (substatement c r) (ActionThere w b) (IsOnlyAction w b) → Adds w x (for_of h b) p z →
    Answers freely u x (d >>= λ o. substatement c r
    >>= λ body. give (one_action (for_action o.items o.test o.step body p))) OnlyThere IsItems z
fors u v w x d c r p h b z e k a =
    and_then freely free_law u v x d (λ o. substatement c r
    >>= λ body. give (one_action (for_action o.items o.test o.step body p))) (head_in v h)
    (HeadThere v h) OnlyThere IsItems z e
    (then_from freely free_law v w x (substatement c r)
    (λ body. give (one_action (for_action (items_in v h.items) (maybe_term v h.test)
    (maybe_term v h.step) body p)))
    (give (one_action (kind_action (terms_of w.nodes.p) (for_of h b) p (action_in w)))) (ActionThere w b)
    (IsOnlyAction w b) OnlyThere IsItems z k
    (λ n s body m t q.
    ap (λ (bs : List Action). give (one_action
    (for_action (items_in v h.items) (maybe_term v h.test) (maybe_term v h.step) bs p)) s) q
    ∙ ap (λ (o : ForHead). give (one_action (for_action o.items o.test o.step (action_in w b ∷ []) p)) s)
    (sym (head_kept v w h k.grows m.closed.values e.there))
    ∙ ap (λ (f : Action). give (one_action f) s) (sym (for_kind_is w h b p)))
    a)

-- ---- jumps

pub jumps_name_nothing : (n : ℕ) (k : StmtKind) → IsJump k → ValuesThere n k
jumps_name_nothing n stmts.Break h = none_there n
jumps_name_nothing n stmts.Continue h = none_there n
jumps_name_nothing n k h = absurd h

jump_is : (es : List Term) (k : StmtKind) (p : Pos) (go : ℕ → Action) → IsJump k →
    kind_action es k p go ≡ tree.action (jump_form k) no_terms no_actions p
jump_is es stmts.Break p go h = refl
jump_is es stmts.Continue p go h = refl
jump_is es k p go h = absurd h

pub jumps : (u w : Work) (k : StmtKind) (allowed : Bool) (p : Pos) (z : Result Items Refusal) → IsJump k →
    allowed ≡ true → Adds u w k p z → Answers freely u w (jumping k allowed p) OnlyThere IsItems z
jumps u w k allowed p z h e a =
    answers_at freely u w (jumping k allowed p)
    (give (one_action (kind_action (terms_of u.nodes.p) k p (action_in u)))) OnlyThere IsItems z
    (λ s t. need_true allowed 133 p (does (jump_form k) no_terms no_actions p) s e
    ∙ ap (λ (f : Action). give (one_action f) s) (sym (jump_is (terms_of u.nodes.p) k p (action_in u) h))) a

-- ---- what stands in the parentheses of a for

pub maybe_there : (u v : Work) (o : Option ℕ) → Keeps u v → MaybeThere u o → MaybeThere v o
maybe_there u v None k t = tt
maybe_there u v (Some j) k t = term_there u v j k t

pub heads : (u v w x : Work) (d : Doing meant.Items) (f g : Doing (List Term)) (i : Items) (a b : Option ℕ) →
    Done freely u v d (ItemsThere v i) (IsItems v i) → Done quietly v w f (MaybeThere w a) (IsMaybe w a) →
    Done quietly w x g (MaybeThere x b) (IsMaybe x b) →
    Done freely u x (d >>= λ i. f >>= λ ts. g
    >>= λ ss. give (let h : ForHead = record { items = i; test = ts; step = ss } in h))
    (HeadThere x (record { items = i; test = a; step = b })) (IsHead x (record { items = i; test = a; step = b }))
heads u v w x d f g i a b p q r =
    let o : Head = record { items = i; test = a; step = b } in
    let k : Keeps v x = keeps_then v w x q.grows.keeps r.grows.keeps in
    let there : HeadThere x o =
    (actions_there v x i.actions.items k p.there, maybe_there w x a r.grows.keeps q.there, r.there) in
    and_then freely free_law u v x d (λ i. f >>= λ ts. g
    >>= λ ss. give (let h : ForHead = record { items = i; test = ts; step = ss } in h)) (items_in v i)
    (ItemsThere v i) HeadThere IsHead (Ok o) p
    (then_from freely free_law v w x f (λ ts. g
    >>= λ ss. give (let h : ForHead = record { items = items_in v i; test = ts; step = ss } in h))
    (g >>= λ ss. give (let h : ForHead = record { items = items_in w i; test = maybe_term w a; step = ss } in h))
    (MaybeThere w a) (IsMaybe w a) HeadThere IsHead (Ok o) (freed v w f MaybeThere IsMaybe (Ok a) q)
    (λ n s ts m t e.
    ap (λ (y : List Term). (g
    >>= λ ss. give (let h : ForHead = record { items = items_in v i; test = y; step = ss } in h)) s) e
    ∙ ap (λ (y : meant.Items). (g
    >>= λ ss. give (let h : ForHead = record { items = y; test = maybe_term w a; step = ss } in h)) s)
    (sym (items_kept v w i q.grows.keeps m.closed.values p.there)))
    (then_from freely free_law w x x g (λ ss.
    give (let h : ForHead = record { items = items_in w i; test = maybe_term w a; step = ss } in h))
    (give (head_in x o)) (MaybeThere x b) (IsMaybe x b) HeadThere IsHead (Ok o)
    (freed w x g MaybeThere IsMaybe (Ok b) r)
    (λ n s ss m t e.
    ap (λ (y : List Term). give (let h : ForHead = record { items = items_in w i; test = maybe_term w a; step = y } in
    h) s) e
    ∙ ap (λ (y : meant.Items).
    give (let h : ForHead = record { items = y; test = maybe_term w a; step = maybe_term x b } in h) s)
    (sym (items_kept w x i r.grows.keeps m.closed.values (actions_there v w i.actions.items q.grows.keeps p.there)))
    ∙ ap (λ (y : List Term). give (let h : ForHead = record { items = items_in x i; test = y; step = maybe_term x b } in
    h) s) (sym (maybe_kept w x a r.grows.keeps.terms q.there)))
    (gave freely free_law x (head_in x o) (HeadThere x o) r.whole there)))

-- a test or a step that there may be
pub some_test : (u v : Work) (x : Syn) (r : Reading) (a : ℕ) → is_absent x ≡ false →
    Done quietly u v (test r) (TermThere v a) (IsTerm v a) →
    Done quietly u v (optional_test x r) (MaybeThere v (Some a)) (IsMaybe v (Some a))
some_test u v x r a e h =
    answers_at quietly u v (optional_test x r) (test r >>= λ t. give (t ∷ [])) MaybeThere IsMaybe (Ok (Some a))
    (λ s t. ap (λ b. (if b then give [] else test r >>= λ t. give (t ∷ [])) s) e)
    (and_then quietly quiet_law u v v (test r) (λ t. give (t ∷ [])) (term_in v.nodes a)
    (TermThere v a) MaybeThere IsMaybe (Ok (Some a)) h
    (gave quietly quiet_law v (term_in v.nodes a ∷ []) (MaybeThere v (Some a)) h.whole h.there))

pub some_step : (u v : Work) (x : Syn) (r : Reading) (a : Operand) → is_absent x ≡ false →
    Done quietly u v (read_value r) (OperandThere v a) (IsOperand v a) →
    Done quietly u v (optional_step x r) (MaybeThere v (Some a.node)) (IsMaybe v (Some a.node))
some_step u v x r a e h =
    answers_at quietly u v (optional_step x r) (read_value r >>= λ o. give (o.is ∷ [])) MaybeThere IsMaybe
    (Ok (Some a.node)) (λ s t. ap (λ b. (if b then give [] else read_value r >>= λ o. give (o.is ∷ [])) s) e)
    (and_then quietly quiet_law u v v (read_value r) (λ o. give (o.is ∷ [])) (operand_in v a)
    (OperandThere v a) MaybeThere IsMaybe (Ok (Some a.node)) h
    (gave quietly quiet_law v (term_in v.nodes a.node ∷ []) (MaybeThere v (Some a.node)) h.whole h.there))

pub no_test : (u : Work) (x : Syn) (r : Reading) → IsWhole u.nodes → is_absent x ≡ true →
    Done quietly u u (optional_test x r) (MaybeThere u None) (IsMaybe u None)
no_test u x r w e =
    answers_at quietly u u (optional_test x r) (give []) MaybeThere IsMaybe (Ok None)
    (λ s t. ap (λ b. (if b then give [] else test r >>= λ t. give (t ∷ [])) s) e)
    (gave quietly quiet_law u [] (MaybeThere u None) w tt)

pub no_step : (u : Work) (x : Syn) (r : Reading) → IsWhole u.nodes → is_absent x ≡ true →
    Done quietly u u (optional_step x r) (MaybeThere u None) (IsMaybe u None)
no_step u x r w e =
    answers_at quietly u u (optional_step x r) (give []) MaybeThere IsMaybe (Ok None)
    (λ s t. ap (λ b. (if b then give [] else read_value r >>= λ o. give (o.is ∷ [])) s) e)
    (gave quietly quiet_law u [] (MaybeThere u None) w tt)

-- the expressions of a `for`
pub for_names_values : (w : Work) (h : Head) (body : ℕ) → MaybeThere w h.test → MaybeThere w h.step →
    ValuesThere (term_count w.nodes) (for_of h body)
for_names_values w h body = both h.test h.step
  where
    both : (a b : Option ℕ) → MaybeThere w a → MaybeThere w b → (j k : ℕ) →
        slice_get (listed same_number a ++ listed same_number b) j ≡ Some k → k < term_count w.nodes
    both None None p q = none_there (term_count w.nodes)
    both None (Some b) p q = one_there (term_count w.nodes) b q
    both (Some a) None p q = one_there (term_count w.nodes) a p
    both (Some a) (Some b) p q = two_there (term_count w.nodes) a b p q

pub returned_there : (n a : ℕ) → a < n → ValuesThere n (stmts.Return (Some a))
returned_there n a h = one_there n a h

-- nothing is given
pub nothing_given : (u : Work) (i : Items) → IsWhole u.nodes → i.vars.items ≡ [] → i.actions.items ≡ [] →
    Done freely u u (give no_items) (ItemsThere u i) (IsItems u i)
nothing_given u i h e f =
    let nothing : items_in u i ≡ no_items =
    ap (λ vs. (let x : meant.Items = record { vars = vs; actions = map (action_in u) i.actions.items } in x)) e
    ∙ ap (λ fs. (let x : meant.Items = record { vars = []; actions = map (action_in u) fs } in x)) f in
    subst (λ (a : meant.Items). Done freely u u (give a) (ItemsThere u i) (IsItems u i)) nothing
    (gave freely free_law u (items_in u i) (ItemsThere u i) h (subst (λ (z : List ℕ). ActionsThere u z) (sym f) tt))

-- ---- refusals

pub test_failed : (u v : Work) (x : Syn) (r : Reading) (e : Refusal) → is_absent x ≡ false →
    Answers quietly u v (test r) TermThere IsTerm (Err e) →
    Answers quietly u v (optional_test x r) MaybeThere IsMaybe (Err e)
test_failed u v x r e h k =
    answers_at quietly u v (optional_test x r) (test r >>= λ t. give (t ∷ [])) MaybeThere IsMaybe (Err e)
    (λ s t. ap (λ b. (if b then give [] else test r >>= λ t. give (t ∷ [])) s) h)
    (failed quietly u v v (test r) (λ t. give (t ∷ [])) TermThere IsTerm MaybeThere IsMaybe e k)

pub step_failed : (u v : Work) (x : Syn) (r : Reading) (e : Refusal) → is_absent x ≡ false →
    Answers quietly u v (read_value r) OperandThere IsOperand (Err e) →
    Answers quietly u v (optional_step x r) MaybeThere IsMaybe (Err e)
step_failed u v x r e h k =
    answers_at quietly u v (optional_step x r) (read_value r >>= λ o. give (o.is ∷ [])) MaybeThere IsMaybe (Err e)
    (λ s t. ap (λ b. (if b then give [] else read_value r >>= λ o. give (o.is ∷ [])) s) h)
    (failed quietly u v v (read_value r) (λ o. give (o.is ∷ [])) OperandThere IsOperand MaybeThere IsMaybe e k)

-- a value where none is given
pub returns_none : (u v : Work) (c : meant.Context) (r : Reading) (p : Pos) (a : Operand) →
    Done quietly u v (read_value r) (OperandThere v a) (IsOperand v a) → is_void c.gives ≡ true →
    Answers freely u v (return_one c p r) OnlyThere IsItems (Err (Code 133 p))
returns_none u v c r p a h n =
    and_then freely free_law u v v (read_value r)
    (λ o. need (not (is_void c.gives)) 133 p >> assigned c.gives o >>= λ y. does Return (one_term y) no_actions p)
    (operand_in v a) (OperandThere v a) OnlyThere IsItems (Err (Code 133 p))
    (freed u v (read_value r) OperandThere IsOperand (Ok a) h)
    (λ s t. ap (λ b. (need (not b) 133 p >> assigned c.gives (operand_in v a)
    >>= λ y. does Return (one_term y) no_actions p) s) n)

pub returns_failed : (u v w : Work) (c : meant.Context) (r : Reading) (p : Pos) (a : Operand) (e : Refusal) →
    Done quietly u v (read_value r) (OperandThere v a) (IsOperand v a) → is_void c.gives ≡ false →
    Answers quietly v w (assigned c.gives (operand_in v a)) TermThere IsTerm (Err e) →
    Answers freely u w (return_one c p r) OnlyThere IsItems (Err e)
returns_failed u v w c r p a e h n k =
    let d : Doing Term = assigned c.gives (operand_in v a) in
    and_then freely free_law u v w (read_value r)
    (λ o. need (not (is_void c.gives)) 133 p >> assigned c.gives o >>= λ y. does Return (one_term y) no_actions p)
    (operand_in v a) (OperandThere v a) OnlyThere IsItems (Err e)
    (freed u v (read_value r) OperandThere IsOperand (Ok a) h)
    (answers_at freely v w (need (not (is_void c.gives)) 133 p >> d >>= λ y. does Return (one_term y) no_actions p)
    (d >>= λ y. does Return (one_term y) no_actions p) OnlyThere IsItems (Err e)
    (λ s t. ap (λ b. (need (not b) 133 p >> d >>= λ y. does Return (one_term y) no_actions p) s) n)
    (failed freely v w w d (λ y. does Return (one_term y) no_actions p) TermThere IsTerm OnlyThere IsItems e
    (freed v w d TermThere IsTerm (Err e) k)))

-- ---- what a switch is on

pub promotes : (n m o : Nodes) (node of to value : ℕ) → node < term_count n →
    nodes.IsType n of (type_of (term_in n node)) → nodes.HasType n m to (promoted (type_in n of)) →
    nodes.HasTerm m o value (converted_term (type_in m to) (term_in m node)) →
    IsPromoted n o node (record { of = to; value = value })
promotes n m o node of to value l t p q =
    let same : term_in m node ≡ term_in n node = p.keeps.terms node l in
    let kind : type_in m to ≡ promoted (type_of (term_in n node)) = p.is.is ∙ ap promoted t.is in
    record {
      keeps = nodes_then n m o p.keeps q.keeps;
      of = record {
        there = (let h = p.is.there in let k = q.keeps.more_types in omega arith);
        is = q.keeps.types to p.is.there ∙ kind;
      };
      value = record {
        there = q.is.there;
        is = q.is.is ∙ ap (λ (z : Ty). converted_term z (term_in m node)) kind
            ∙ ap (converted_term (promoted (type_of (term_in n node)))) same;
      };
    }

abbrev on_integer : meant_operands.Operand → Doing SwitchedOn
on_integer a = need (is_integer (operand_type a)) 133 a.first
    >> give (record { of = promoted (operand_type a); value = converted_term (promoted (operand_type a)) a.is })

pub switched_done : (u v : Work) (n : Nodes) (r : Reading) (a : Operand) (on : Controlling) →
    Done quietly u v (read_value r) (OperandThere v a) (IsOperand v a) →
    is_integer (type_of (term_in v.nodes a.node)) ≡ true → IsPromoted v.nodes n a.node on →
    Done quietly u (record v { nodes = n }) (switched r) (SwitchedThere (record v { nodes = n }) on)
    (IsSwitched (record v { nodes = n }) on)
switched_done u v n r a on h e k =
    let w : Work = record v { nodes = n } in
    let x : Term = term_in v.nodes a.node in
    let of : Ty = promoted (type_of x) in
    and_then quietly quiet_law u v w (read_value r) on_integer (operand_in v a)
    (OperandThere v a) SwitchedThere IsSwitched (Ok on) h
    (answers_at quietly v w (on_integer (operand_in v a)) (give (switched_on w on)) SwitchedThere IsSwitched (Ok on)
    (λ s t.
    ap (λ b. (need b 133 a.first >> give (let y : SwitchedOn = record { of = of; value = converted_term of x } in y)) s)
    e
    ∙ ap (λ (z : Ty). give (let y : SwitchedOn = record { of = z; value = converted_term of x } in y) s) (sym k.of.is)
    ∙ ap (λ (z : Term). give (let y : SwitchedOn = record { of = type_in n on.of; value = z } in y) s) (sym k.value.is))
    (record {
      whole = k.keeps.whole;
      grows = quiet_nodes v n k.keeps;
      there = (k.of.there, k.value.there);
      gives = λ s t. record {
        value = switched_on w on;
        state = s;
        is = refl;
        stays = still_same s;
        shows = shows_nodes v n s k.keeps t;
        fits = refl;
      };
    }))

pub switched_refused : (u v : Work) (r : Reading) (a : Operand) →
    Done quietly u v (read_value r) (OperandThere v a) (IsOperand v a) →
    is_integer (type_of (term_in v.nodes a.node)) ≡ false →
    Answers quietly u v (switched r) SwitchedThere IsSwitched (Err (Code 133 a.first))
switched_refused u v r a h e =
    let x : Term = term_in v.nodes a.node in
    let of : Ty = promoted (type_of x) in
    and_then quietly quiet_law u v v (read_value r) on_integer (operand_in v a)
    (OperandThere v a) SwitchedThere IsSwitched (Err (Code 133 a.first)) h
    (λ s t. ap (λ b. (need b 133 a.first
    >> give (let y : SwitchedOn = record { of = of; value = converted_term of x } in y)) s) e)
