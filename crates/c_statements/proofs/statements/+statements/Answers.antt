use Rattle.std.proofs.Common.{◌≡◌, ℕ, ◌∷◌, ◌++◌, [], List, length, map, sym, ap, subst, ◌∙◌, arith, Ok, Err}
use Rattle.ck_base.specs.declared.positions.Pos.{Pos}
use Rattle.c_tree.specs.declared.syntax.NodeKind.{NodeKind}
use Rattle.c_tree.specs.declared.syntax.NodeKind.TheVariants as Kinds
use Rattle.c_tree.specs.Readings as meant
use Rattle.c_tree.specs.Readings.{Reading}
use Rattle.c_tree.specs.Programs.{reading, readings}
use Rattle.c_tree.specs.Scopes.{Doing, give, refuse, in_scope, ◌>>=◌}
use Rattle.c_tree.specs.Statements.{all_items, substatement, statement_of, does, case_label, add_label, test, one_term}
use Rattle.c_tree.specs.Statements.{one_action, for_action, in_a_loop, in_a_switch, switch_item, switch_items, no_cases}
use Rattle.c_expressions.specs.Nodes.{type_in, term_in, term_count}
use Rattle.c_elaborator.specs.Answers.{Answers, freely, TermThere, IsTerm, action_in}
use Rattle.c_elaborator.specs.Parts.{AreParts}
use Rattle.c_elaborator.proofs.Sequencing.{answers_at, failed, freed, keeps_same, keeps_then, type_there}
use Rattle.c_elaborator.proofs.Going.{context_kept, context_there, none_there, one_there, term_there}
use Rattle.c_statements.proofs.Placing.{node_kept, node_within_kept, at_place, at_same}
use Rattle.c_statements.proofs.Failing.{second_failed, third_failed}
use Rattle.std.proofs.lemmas.Result.{err_from_is_err_and}
use Rattle.c_elaborator.specs.declared.items.Context.{Context}
use Rattle.c_elaborator.specs.Items.{ContextThere, ValuesThere, context_in, ItemsThere, OnlyThere, IsItems, ActionThere}
use Rattle.c_elaborator.specs.Items.{IsOnlyAction}
use Rattle.c_statements.specs.Gather.{SoFar}
use Rattle.c_statements.specs.Switching.{CasesSoFar}
use Rattle.c_statements.proofs.Switching.{cases_begin, cases_end, cases_fail, cases_step, more_items}
use Rattle.c_tree.specs.Syntax.{Syn, node}
use Rattle.c_tree.specs.Statements as statements
use Rattle.c_tree.specs.Types.{Ty}
use Rattle.c_tree.specs.Terms.{Empty, If, While, Do, Switch, no_terms, no_actions, actions}
use Rattle.c_tree.specs.Declarations.{both, declaration}
use Rattle.c_tree.specs.declared.typed.StmtKind.TheVariants as stmts
use Rattle.c_tree.specs.declared.typed.StmtKind.{StmtKind}
use Rattle.c_statements.specs.Statements.{evaluated, jumping, return_of, block_of, if_of, if_else_of, while_of, do_of}
use Rattle.c_statements.specs.Statements.{for_head, for_in, switch_in, if_with, if_else_with, while_with, do_with}
use Rattle.c_statements.specs.Statements.{inside_of, HeadThere, head_in, switched, SwitchedThere, IsSwitched}
use Rattle.c_plain_rules.specs.Control.{switch_label}
use Rattle.c_statements.specs.Statements.{switched_on, CasesThere, IsCases, cases_in}
use Rattle.c_statements.proofs.Gather.{gathered, so_far_begins, so_far_ends, so_far_fails, so_far_steps}
use Rattle.c_readings.proofs.Kids.{opened, part_kept}
use Rattle.c_readings.proofs.Kids.{parts_kept}
use Rattle.c_statements.proofs.Inside.{scope_is, is_scoped, nothing_inside, evaluated_is, returned_is, case_item}
use Rattle.c_statements.proofs.Inside.{default_item, other_item}
use Rattle.c_statements.proofs.Parting.{for_refused, for_answers, switch_refused, switch_answers}
use Rattle.c_elaborator.proofs.Scoping.{in_scope_failed, enter_failed, alone_in_scope}
use Rattle.c_statements.specs.Only.{ItemThere}
use Rattle.c_statements.proofs.Only.{some_items, as_statement, stated, declared, within, one_in_scope, two_that}
use Rattle.c_statements.proofs.Only.{three_that}
use Rattle.c_statements.proofs.Only.{four_that, one_statement}
use Rattle.c_statements.proofs.Bracing.{in_scope_cases}
use Rattle.c_statements.proofs.Stating.{reading_node, from_two, from_three, not_two, not_three}
use Rattle.c_statements.proofs.Steps.{Adds, for_names_values, maybe_there, same_block, blocks, ifs, ifs_else, whiles}
use Rattle.c_statements.proofs.Steps.{dos, fors, switches}
use Rattle.c_readings.specs.Within.{PartsWithin}
use Rattle.c_readings.proofs.Within.{deep, first_within, kids_in, kind_kept, kinds_in, node_low, node_of, others_within}
use Rattle.c_readings.proofs.Within.{part_there, still_within, within_kept}
use Rattle.c_statements.proofs.statements.+statements.Goals as goal

pub item-statement-requires : goal.item-statement-requires
item-statement-requires t c =
    let some = deep c.args.work.now c.args.k c.requires.part in (
      omega arith,
      (
        c.requires.whole,
        (
          c.requires.context,
          node_of c.args.work.now c.args.k c.node_at-node.result.now c.requires.part c.node_at-node.ensures,
        ),
      ),
    )

pub item-node_at-node-requires : goal.item-node_at-node-requires
item-node_at-node-requires t c = part_there c.args.work.now c.args.k c.requires.part

pub switch_item-node_at-node-requires : goal.switch_item-node_at-node-requires
switch_item-node_at-node-requires t c = part_there c.args.work.now c.args.k c.requires.part

pub item-returns : goal.item-returns
item-returns t c = λ x p.
    let u = c.args.work.now in
    let w = c.statement.new.work in
    let o = opened u c.args.k x c.node_at-node.result.now p c.node_at-node.ensures in
    let n = node c.node_at-node.result.now.kind o.token o.parts in
    let d = context_in u c.args.context in
    subst (λ (y : Syn). Answers freely u w ((reading y).item d) (ItemThere y) IsItems c.statement.result) (sym o.is)
    (subst (λ (q : Reading). Answers freely u w (q.item d) (ItemThere n) IsItems c.statement.result)
    (sym (reading_node c.node_at-node.result.now.kind o.token o.parts)) (c.statement.ensures o.token o.parts o.node))

pub scoped-returns : goal.scoped-returns
scoped-returns t c = λ t' xs n.
    let u = c.args.work.now in
    let v = c.enter.new.work in
    let a = c.in_ok-items.ensures t' xs (node_kept u v c.args.node.now t' xs c.in_ok-enter.ensures.grows n) in
    one_in_scope u v c.inside.new.work c.leave.new.work _ c.in_ok-items.items c.in_ok-enter.ensures
    (subst (λ (d : meant.Context). Answers freely v c.inside.new.work
    (inside_of c.args.node.now.kind t' xs (readings xs) d) OnlyThere IsItems (Ok c.in_ok-items.items))
    (context_kept u v c.args.context c.in_ok-enter.ensures.grows c.requires.context) a)
    c.leave.ensures

pub all_items-loop-part-init : goal.all_items-loop-part-init
all_items-loop-part-init t c =
    let u = c.args.work.now in
    record {
      whole = c.requires.whole;
      keeps = keeps_same u;
      parts = c.requires.parts;
      found = so_far_begins (λ r. r.item (context_in u c.args.context)) u c.args.kids.now c.no_items-items.result
          c.requires.whole c.no_items-items.ensures.vars c.no_items-items.ensures.actions;
    }

pub all_items-item-requires : goal.all_items-item-requires
all_items-item-requires t c =
    let v = c.loop-part.work in (
      omega arith,
      (
        c.loop-part.invariant.whole,
        (
          context_there c.args.work.now v c.args.context c.loop-part.invariant.keeps c.requires.context,
          first_within v c.in-Some.part.first c.in-Some.part.others.now
              (subst (λ (z : List ℕ). PartsWithin v c.args.depth z) c.in-Some.ensures c.loop-part.invariant.parts),
        ),
      ),
    )

pub all_items-loop-part-preserved : goal.all_items-loop-part-preserved
all_items-loop-part-preserved t c =
    let u = c.args.work.now in
    let v = c.loop-part.work in
    let w = c.item.new.work in
    let k = c.in-Some.part.first in
    let ks = c.in-Some.part.others.now in
    let step = λ (d : meant.Context) (r : Reading). r.item d in
    let same = context_kept u v c.args.context c.loop-part.invariant.keeps c.requires.context in
    let h = subst (λ (z : List ℕ). PartsWithin v c.args.depth z) c.in-Some.ensures c.loop-part.invariant.parts in
    let f = first_within v k ks h in
    let a = c.in_ok-more.ensures f.syntax f.is in
    record {
      whole = a.whole;
      keeps = keeps_then u v w c.loop-part.invariant.keeps a.grows;
      parts = within_kept v w ks a.grows (others_within v k ks h);
      found = λ xs q. so_far_steps (step (context_in u c.args.context)) u v w xs k ks c.loop-part.items
          c.in_ok-more.more c.join.new.items
          (subst (λ (z : List ℕ). SoFar (step (context_in u c.args.context)) u v xs z c.loop-part.items)
          c.in-Some.ensures (c.loop-part.invariant.found xs q))
          (λ y p. subst (λ (d : meant.Context). Answers freely v w ((reading y).item d) ItemsThere IsItems
          (Ok c.in_ok-more.more)) same
          (some_items v w ((reading y).item (context_in v c.args.context)) y (Ok c.in_ok-more.more)
          (c.in_ok-more.ensures y p)))
          c.in_ok-join.ensures.vars c.in_ok-join.ensures.actions;
    }

pub all_items-returns : goal.all_items-returns
all_items-returns t c = λ xs q.
    let u = c.args.work.now in
    let v = c.loop-part.work in
    let d = context_in u c.args.context in
    gathered u v d (readings xs) (Ok c.loop-part.items)
    (so_far_ends (λ r. r.item d) u v xs c.loop-part.items
    (subst (λ (z : List ℕ). SoFar (λ r. r.item d) u v xs z c.loop-part.items) c.in_default.ensures
    (c.loop-part.invariant.found xs q)))

pub block-returns : goal.block-returns
block-returns t c = λ xs q.
    let u = c.args.work.now in
    blocks u c.all_items.new.work c.does.new.work (context_in u c.args.context)
    (readings xs) c.args.pos c.in_ok-items.items c.does.result (c.in_ok-items.ensures xs q)
    (same_block c.all_items.new.work c.does.new.work c.from_vec.result c.in_ok-items.items.vars.items
    c.from_vec-2.result c.in_ok-items.items.actions.items c.args.pos c.does.result c.from_vec.ensures
    c.from_vec-2.ensures c.does.ensures)

pub if_one-if_with-requires : goal.if_one-if_with-requires
if_one-if_with-requires t c =
    let x = c.in-Some.x in
    let h = two_that c.args.work.now c.args.kids.now x.first x.second c.in-Some.ensures c.requires.parts in
    let body = one_statement c.args.work.now x.second h.second h.have in
    (omega arith, (c.requires.whole, (c.requires.context, (h.first, body))))

pub if_one-returns-in-Some : goal.if_one-returns-in-Some
if_one-returns-in-Some t c =
    from_two freely c.args.work.now _ c.args.kids.now c.in-Some.x.first c.in-Some.x.second
    (if_with (context_in c.args.work.now c.args.context) c.args.pos) c.args.pos OnlyThere IsItems _ c.in-Some.ensures
    c.if_with.ensures

pub if_one-returns-in-None : goal.if_one-returns-in-None
if_one-returns-in-None t c =
    not_two c.args.work.now c.args.kids.now (if_with (context_in c.args.work.now c.args.context) c.args.pos) c.args.pos
    c.in-None.ensures

pub if_with-returns : goal.if_with-returns
if_with-returns t c = λ x y p q.
    let u = c.args.work.now in
    let v = c.test.new.work in
    let a = c.in_ok-on.ensures x p in
    let b = c.in_ok-body.ensures y (part_kept u v c.args.b y a.grows.keeps q) in
    ifs u v c.substatement.new.work c.does.new.work (context_in u c.args.context) (reading x)
    (reading y) c.args.pos c.in_ok-on.on c.in_ok-body.body c.does.result a
    (subst (λ (d : meant.Context). Answers freely v c.substatement.new.work
    (substatement d (reading y)) ActionThere IsOnlyAction (Ok c.in_ok-body.body))
    (context_kept u v c.args.context a.grows.keeps c.requires.context) b)
    c.does.ensures

pub while_loop-while_with-requires : goal.while_loop-while_with-requires
while_loop-while_with-requires t c =
    let x = c.in-Some.x in
    let h = two_that c.args.work.now c.args.kids.now x.first x.second c.in-Some.ensures c.requires.parts in
    let body = one_statement c.args.work.now x.second h.second h.have in
    (omega arith, (c.requires.whole, (c.requires.context, (h.first, body))))

pub while_loop-returns-in-Some : goal.while_loop-returns-in-Some
while_loop-returns-in-Some t c =
    from_two freely c.args.work.now _ c.args.kids.now c.in-Some.x.first c.in-Some.x.second
    (while_with (context_in c.args.work.now c.args.context) c.args.pos) c.args.pos OnlyThere IsItems _
    c.in-Some.ensures c.while_with.ensures

pub while_loop-returns-in-None : goal.while_loop-returns-in-None
while_loop-returns-in-None t c =
    not_two c.args.work.now c.args.kids.now (while_with (context_in c.args.work.now c.args.context) c.args.pos)
    c.args.pos c.in-None.ensures

pub do_loop-do_with-requires : goal.do_loop-do_with-requires
do_loop-do_with-requires t c =
    let x = c.in-Some.x in
    let h = two_that c.args.work.now c.args.kids.now x.first x.second c.in-Some.ensures c.requires.parts in
    let body = one_statement c.args.work.now x.first h.first h.have in
    (omega arith, (c.requires.whole, (c.requires.context, (body, h.second))))

pub do_loop-returns-in-Some : goal.do_loop-returns-in-Some
do_loop-returns-in-Some t c =
    from_two freely c.args.work.now _ c.args.kids.now c.in-Some.x.first c.in-Some.x.second
    (do_with (context_in c.args.work.now c.args.context) c.args.pos) c.args.pos OnlyThere IsItems _ c.in-Some.ensures
    c.do_with.ensures

pub do_loop-returns-in-None : goal.do_loop-returns-in-None
do_loop-returns-in-None t c =
    not_two c.args.work.now c.args.kids.now (do_with (context_in c.args.work.now c.args.context) c.args.pos) c.args.pos
    c.in-None.ensures

pub if_else-if_else_with-requires : goal.if_else-if_else_with-requires
if_else-if_else_with-requires t c =
    let x = c.in-Some.x in
    let w = c.args.work.now in
    let h = three_that w c.args.kids.now x.first x.second x.third c.in-Some.ensures c.requires.parts in
    let body = one_statement w x.second h.second h.have.0 in
    let other = one_statement w x.third h.third h.have.1 in
    (omega arith, (c.requires.whole, (c.requires.context, (h.first, (body, other)))))

pub if_else-returns-in-Some : goal.if_else-returns-in-Some
if_else-returns-in-Some t c =
    from_three freely c.args.work.now _ c.args.kids.now c.in-Some.x.first c.in-Some.x.second c.in-Some.x.third
    (if_else_with (context_in c.args.work.now c.args.context) c.args.pos) c.args.pos OnlyThere IsItems _
    c.in-Some.ensures c.if_else_with.ensures

pub if_else-returns-in-None : goal.if_else-returns-in-None
if_else-returns-in-None t c =
    not_three c.args.work.now c.args.kids.now
    (if_else_with (context_in c.args.work.now c.args.context) c.args.pos) c.args.pos c.in-None.ensures

pub if_with-substatement-requires : goal.if_with-substatement-requires
if_with-substatement-requires t c =
    let u = c.args.work.now in
    let v = c.test.new.work in
    let a = c.in_ok-on.ensures c.requires.first.syntax c.requires.first.is in (
      omega arith,
      (
        a.whole,
        (
          context_there u v c.args.context a.grows.keeps c.requires.context,
          kind_kept u v c.args.b a.grows.keeps c.requires.second,
        ),
      ),
    )

pub if_with-does-requires : goal.if_with-does-requires
if_with-does-requires t c =
    let u = c.args.work.now in
    let v = c.test.new.work in
    let w = c.substatement.new.work in
    let a = c.in_ok-on.ensures c.requires.first.syntax c.requires.first.is in
    let f = still_within u v c.args.b a.grows.keeps c.requires.second.part in
    let b = c.in_ok-body.ensures f.syntax f.is in
    record {
      whole = b.whole;
      values = one_there (term_count w.nodes) c.in_ok-on.on (term_there v w c.in_ok-on.on b.grows a.there);
    }

pub while_with-returns : goal.while_with-returns
while_with-returns t c = λ x y p q.
    let u = c.args.work.now in
    let v = c.test.new.work in
    let a = c.in_ok-on.ensures x p in
    let b = c.in_ok-body.ensures y (part_kept u v c.args.b y a.grows.keeps q) in
    let same : context_in v c.in_a_loop.result ≡ in_a_loop (context_in u c.args.context) =
    ap (context_in v) c.in_a_loop.ensures
    ∙ ap in_a_loop (context_kept u v c.args.context a.grows.keeps c.requires.context) in
    whiles u v c.substatement.new.work c.does.new.work (in_a_loop (context_in u c.args.context)) (reading x)
    (reading y) c.args.pos c.in_ok-on.on c.in_ok-body.body c.does.result a
    (subst (λ (d : meant.Context). Answers freely v c.substatement.new.work
    (substatement d (reading y)) ActionThere IsOnlyAction (Ok c.in_ok-body.body)) same b)
    c.does.ensures

pub do_with-returns : goal.do_with-returns
do_with-returns t c = λ x y p q.
    let u = c.args.work.now in
    let v = c.substatement.new.work in
    let a = c.in_ok-body.ensures x p in
    let b = c.in_ok-on.ensures y (part_kept u v c.args.b y a.grows q) in
    let same : context_in u c.in_a_loop.result ≡ in_a_loop (context_in u c.args.context) =
    ap (context_in u) c.in_a_loop.ensures in
    dos u v c.test.new.work c.does.new.work (in_a_loop (context_in u c.args.context)) (reading x)
    (reading y) c.args.pos c.in_ok-on.on c.in_ok-body.body c.does.result
    (subst (λ (d : meant.Context). Answers freely u v (substatement d (reading x)) ActionThere IsOnlyAction
    (Ok c.in_ok-body.body)) same a)
    b c.does.ensures

pub if_else_with-returns : goal.if_else_with-returns
if_else_with-returns t c = λ x y z p q o.
    let u = c.args.work.now in
    let v = c.test.new.work in
    let w = c.substatement.new.work in
    let d = context_in u c.args.context in
    let a = c.in_ok-on.ensures x p in
    let b = c.in_ok-body.ensures y (part_kept u v c.args.b y a.grows.keeps q) in
    let k = keeps_then u v w a.grows.keeps b.grows in
    let e = c.in_ok-other.ensures z (part_kept u w c.args.c z k o) in
    ifs_else u v w c.substatement-2.new.work c.does.new.work d (reading x) (reading y)
    (reading z) c.args.pos c.in_ok-on.on c.in_ok-body.body c.in_ok-other.other c.does.result a
    (subst (λ (d : meant.Context). Answers freely v w (substatement d (reading y)) ActionThere IsOnlyAction
    (Ok c.in_ok-body.body)) (context_kept u v c.args.context a.grows.keeps c.requires.context) b)
    (subst (λ (d : meant.Context). Answers freely w c.substatement-2.new.work
    (substatement d (reading z)) ActionThere IsOnlyAction (Ok c.in_ok-other.other))
    (context_kept u w c.args.context k c.requires.context) e)
    c.does.ensures

pub substatement-returns : goal.substatement-returns
substatement-returns t c = λ x p.
    let u = c.args.work.now in
    let v = c.enter.new.work in
    let w = c.item.new.work in
    let e = c.in_ok-enter.ensures in
    let a = c.in_ok-items.ensures x (part_kept u v c.args.k x e.grows p) in
    let i = c.in_ok-items.items in
    alone_in_scope u v w c.leave.new.work ((reading x).item (context_in u c.args.context)) i c.alone.result e
    (subst (λ (d : meant.Context). Answers freely v w ((reading x).item d) ItemsThere IsItems (Ok i))
    (context_kept u v c.args.context e.grows c.requires.context)
    (some_items v w ((reading x).item (context_in v c.args.context)) x (Ok i) a))
    c.leave.ensures (sym c.as_slice.ensures.value ∙ c.alone.ensures)

pub switch_items-loop-part-init : goal.switch_items-loop-part-init
switch_items-loop-part-init t c =
    let u = c.args.work.now in
    let none : map switch_label c.new.result.entries ≡ [] = ap (map switch_label) c.new.ensures.empty in
    record {
      whole = c.requires.whole;
      keeps = keeps_same u;
      parts = c.requires.parts;
      found = cases_begin (context_in u c.args.context) (type_in u.nodes c.args.of) u c.args.kids.now
          (record { items = c.no_items.result; labels = c.new.result }) c.requires.whole c.no_items.ensures.vars
          c.no_items.ensures.actions none;
    }

pub switch_items-switch_item-requires : goal.switch_items-switch_item-requires
switch_items-switch_item-requires t c =
    let u = c.args.work.now in
    let v = c.loop-part.work in
    let i = c.loop-part.invariant in
    let h = subst (λ (z : List ℕ). PartsWithin v c.args.depth z) c.in-Some.ensures i.parts in (
      omega arith,
      (
        i.whole,
        (
          context_there u v c.args.context i.keeps c.requires.context,
          (
            type_there u v c.args.of i.keeps c.requires.of,
            (
              first_within v c.in-Some.part.first c.in-Some.part.others.now h,
              (i.found c.requires.parts.syntax c.requires.parts.are).done.there,
            ),
          ),
        ),
      ),
    )

pub switch_items-loop-part-preserved : goal.switch_items-loop-part-preserved
switch_items-loop-part-preserved t c =
    let u = c.args.work.now in
    let v = c.loop-part.work in
    let w = c.switch_item.new.work in
    let i = c.loop-part.invariant in
    let k = c.in-Some.part.first in
    let ks = c.in-Some.part.others.now in
    let h = subst (λ (z : List ℕ). PartsWithin v c.args.depth z) c.in-Some.ensures i.parts in
    let f = first_within v k ks h in
    let a = c.in_ok-cases.ensures f.syntax f.is in
    let same : context_in v c.args.context ≡ context_in u c.args.context =
    context_kept u v c.args.context i.keeps c.requires.context in
    let also_same : type_in v.nodes c.args.of ≡ type_in u.nodes c.args.of = i.keeps.types c.args.of c.requires.of in
    record {
      whole = a.whole;
      keeps = keeps_then u v w i.keeps a.grows;
      parts = within_kept v w ks a.grows (others_within v k ks h);
      found = λ xs q. cases_step (context_in u c.args.context)
          (type_in u.nodes c.args.of) u v w xs k ks c.loop-part.cases c.in_ok-cases.cases
          (subst (λ (z : List ℕ). CasesSoFar (context_in u c.args.context)
          (type_in u.nodes c.args.of) u v xs z c.loop-part.cases) c.in-Some.ensures (i.found xs q))
          (λ y p.
          subst (λ (d : meant.Context). Answers freely v w
          (switch_item d (type_in u.nodes c.args.of) y (reading y) (cases_in v c.loop-part.cases)) CasesThere
          IsCases (Ok c.in_ok-cases.cases)) same
          (subst (λ (of : Ty). Answers freely v w
          (switch_item (context_in v c.args.context) of y (reading y) (cases_in v c.loop-part.cases)) CasesThere
          IsCases (Ok c.in_ok-cases.cases)) also_same (c.in_ok-cases.ensures y p)));
    }

pub switch_items-returns : goal.switch_items-returns
switch_items-returns t c = λ xs q.
    let u = c.args.work.now in
    let v = c.loop-part.work in
    cases_end (context_in u c.args.context) (type_in u.nodes c.args.of) u v xs c.loop-part.cases
    (subst (λ (z : List ℕ). CasesSoFar (context_in u c.args.context)
    (type_in u.nodes c.args.of) u v xs z c.loop-part.cases) c.in_default.ensures
    (c.loop-part.invariant.found xs q))

pub statement-returns-in-Declaration : goal.statement-returns-in-Declaration
statement-returns-in-Declaration t c = λ t' xs n.
    let u = c.args.work.now in
    let w = c.declaration.new.work in
    let d = context_in u c.args.context in
    declared u w t' xs d c.args.node.now.kind c.declaration.result c.in-Declaration.is
    (at_place u w (λ p. declaration p (readings xs)) ItemsThere t'.pos c.args.node.now.pos c.declaration.result n.place
    (c.declaration.ensures xs (subst (λ (ks : List ℕ). AreParts u ks xs) (sym c.as_slice-kids.ensures) n.parts)))

pub statement-returns-in-EmptyStatement : goal.statement-returns-in-EmptyStatement
statement-returns-in-EmptyStatement t c = λ t' xs n.
    let u = c.args.work.now in
    let w = c.does.new.work in
    let d = context_in u c.args.context in
    stated u w t' xs d c.args.node.now.kind Kinds.EmptyStatement c.does.result c.in-EmptyStatement.is
    (at_place u w (λ p. does Empty no_terms no_actions p) OnlyThere t'.pos c.args.node.now.pos c.does.result n.place
    c.does.ensures)

pub statement-returns-in-ExpressionStatement : goal.statement-returns-in-ExpressionStatement
statement-returns-in-ExpressionStatement t c = λ t' xs n.
    let u = c.args.work.now in
    let w = c.evaluate.new.work in
    let d = context_in u c.args.context in
    stated u w t' xs d c.args.node.now.kind Kinds.ExpressionStatement c.evaluate.result c.in-ExpressionStatement.is
    (answers_at freely u w (statement_of Kinds.ExpressionStatement t' xs (readings xs) d)
    (evaluated t'.pos (readings xs)) OnlyThere IsItems c.evaluate.result
    (λ s h. evaluated_is t' xs (readings xs) d s)
    (at_place u w (λ p. evaluated p (readings xs)) OnlyThere t'.pos c.args.node.now.pos c.evaluate.result n.place
    (c.evaluate.ensures xs (subst (λ (ks : List ℕ). AreParts u ks xs) (sym c.as_slice-kids.ensures) n.parts))))

pub statement-returns-in-Break : goal.statement-returns-in-Break
statement-returns-in-Break t c = λ t' xs n.
    let u = c.args.work.now in
    let w = c.jump.new.work in
    let d = context_in u c.args.context in
    stated u w t' xs d c.args.node.now.kind Kinds.Break c.jump.result c.in-Break.is
    (at_place u w (λ p. jumping stmts.Break d.breakable p) OnlyThere t'.pos c.args.node.now.pos c.jump.result n.place
    c.jump.ensures)

pub statement-returns-in-Continue : goal.statement-returns-in-Continue
statement-returns-in-Continue t c = λ t' xs n.
    let u = c.args.work.now in
    let w = c.jump-in-Continue.new.work in
    let d = context_in u c.args.context in
    stated u w t' xs d c.args.node.now.kind Kinds.Continue c.jump-in-Continue.result c.in-Continue.is
    (at_place u w (λ p. jumping stmts.Continue d.in_loop p) OnlyThere t'.pos c.args.node.now.pos
    c.jump-in-Continue.result n.place
    c.jump-in-Continue.ensures)

pub statement-returns-in-Return : goal.statement-returns-in-Return
statement-returns-in-Return t c = λ t' xs n.
    let u = c.args.work.now in
    let w = c.return_at.new.work in
    let d = context_in u c.args.context in
    stated u w t' xs d c.args.node.now.kind Kinds.Return c.return_at.result c.in-Return.is
    (answers_at freely u w (statement_of Kinds.Return t' xs (readings xs) d)
    (return_of d t'.pos (readings xs)) OnlyThere IsItems c.return_at.result
    (λ s h. returned_is t' xs (readings xs) d s)
    (at_place u w (λ p. return_of d p (readings xs)) OnlyThere t'.pos c.args.node.now.pos c.return_at.result n.place
    (c.return_at.ensures xs (subst (λ (ks : List ℕ). AreParts u ks xs) (sym c.as_slice-kids.ensures) n.parts))))

pub inside-returns-in-Block : goal.inside-returns-in-Block
inside-returns-in-Block t c = λ t' xs n.
    let u = c.args.work.now in
    let w = c.block.new.work in
    let d = context_in u c.args.context in
    within u w t' xs d c.args.node.now.kind Kinds.Block c.block.result c.in-Block.is
    (at_place u w (λ p. block_of d p (readings xs)) OnlyThere t'.pos c.args.node.now.pos c.block.result n.place
    (c.block.ensures xs (subst (λ (ks : List ℕ). AreParts u ks xs) (sym c.as_slice-kids.ensures) n.parts)))

pub inside-returns-in-If : goal.inside-returns-in-If
inside-returns-in-If t c = λ t' xs n.
    let u = c.args.work.now in
    let w = c.if_one.new.work in
    let d = context_in u c.args.context in
    within u w t' xs d c.args.node.now.kind Kinds.If c.if_one.result c.in-If.is
    (at_place u w (λ p. if_of d p (readings xs)) OnlyThere t'.pos c.args.node.now.pos c.if_one.result n.place
    (c.if_one.ensures xs (subst (λ (ks : List ℕ). AreParts u ks xs) (sym c.as_slice-kids.ensures) n.parts)))

pub inside-returns-in-IfElse : goal.inside-returns-in-IfElse
inside-returns-in-IfElse t c = λ t' xs n.
    let u = c.args.work.now in
    let w = c.if_else.new.work in
    let d = context_in u c.args.context in
    within u w t' xs d c.args.node.now.kind Kinds.IfElse c.if_else.result c.in-IfElse.is
    (at_place u w (λ p. if_else_of d p (readings xs)) OnlyThere t'.pos c.args.node.now.pos c.if_else.result n.place
    (c.if_else.ensures xs (subst (λ (ks : List ℕ). AreParts u ks xs) (sym c.as_slice-kids.ensures) n.parts)))

pub inside-returns-in-While : goal.inside-returns-in-While
inside-returns-in-While t c = λ t' xs n.
    let u = c.args.work.now in
    let w = c.while_loop.new.work in
    let d = context_in u c.args.context in
    within u w t' xs d c.args.node.now.kind Kinds.While c.while_loop.result c.in-While.is
    (at_place u w (λ p. while_of d p (readings xs)) OnlyThere t'.pos c.args.node.now.pos c.while_loop.result n.place
    (c.while_loop.ensures xs (subst (λ (ks : List ℕ). AreParts u ks xs) (sym c.as_slice-kids.ensures) n.parts)))

pub inside-returns-in-Do : goal.inside-returns-in-Do
inside-returns-in-Do t c = λ t' xs n.
    let u = c.args.work.now in
    let w = c.do_loop.new.work in
    let d = context_in u c.args.context in
    within u w t' xs d c.args.node.now.kind Kinds.Do c.do_loop.result c.in-Do.is
    (at_place u w (λ p. do_of d p (readings xs)) OnlyThere t'.pos c.args.node.now.pos c.do_loop.result n.place
    (c.do_loop.ensures xs (subst (λ (ks : List ℕ). AreParts u ks xs) (sym c.as_slice-kids.ensures) n.parts)))

pub inside-returns-in-For : goal.inside-returns-in-For
inside-returns-in-For t c = λ t' xs n.
    let u = c.args.work.now in
    let w = c.for_loop.new.work in
    let d = context_in u c.args.context in
    within u w t' xs d c.args.node.now.kind Kinds.For c.for_loop.result c.in-For.is
    (at_place u w (λ p. for_in d p xs (readings xs)) OnlyThere t'.pos c.args.node.now.pos c.for_loop.result n.place
    (c.for_loop.ensures xs (subst (λ (ks : List ℕ). AreParts u ks xs) (sym c.as_slice-kids.ensures) n.parts)))

pub inside-returns-in-Switch : goal.inside-returns-in-Switch
inside-returns-in-Switch t c = λ t' xs n.
    let u = c.args.work.now in
    let w = c.switch.new.work in
    let d = context_in u c.args.context in
    within u w t' xs d c.args.node.now.kind Kinds.Switch c.switch.result c.in-Switch.is
    (at_place u w (λ p. switch_in d p xs (readings xs)) OnlyThere t'.pos c.args.node.now.pos c.switch.result n.place
    (c.switch.ensures xs (subst (λ (ks : List ℕ). AreParts u ks xs) (sym c.as_slice-kids.ensures) n.parts)))

pub for_with-returns : goal.for_with-returns
for_with-returns t c = λ x1 x2 x3 x4 p1 p2 p3 p4.
    let u = c.args.work.now in
    let v = c.for_head.new.work in
    let d = context_in u c.args.context in
    let a = c.in_ok-head.ensures x1 x2 x3 p1 p2 p3 in
    let b = c.in_ok-body.ensures x4 (part_kept u v c.args.x.last x4 a.grows p4) in
    let same : context_in v c.in_a_loop.result ≡ in_a_loop d =
    ap (context_in v) c.in_a_loop.ensures
    ∙ ap in_a_loop (context_kept u v c.args.context a.grows c.requires.context) in
    fors u v c.substatement.new.work c.does.new.work (for_head d x1 x2 x3 (reading x1) (reading x2) (reading x3))
    (in_a_loop d) (reading x4) c.args.pos c.in_ok-head.head c.in_ok-body.body c.does.result a
    (subst (λ (e : meant.Context). Answers freely v c.substatement.new.work
    (substatement e (reading x4)) ActionThere IsOnlyAction (Ok c.in_ok-body.body)) same b)
    (subst (λ (k : StmtKind). Adds c.substatement.new.work c.does.new.work k c.args.pos c.does.result)
    c.for_kind.ensures c.does.ensures)

pub switch_body-returns : goal.switch_body-returns
switch_body-returns t c = λ xs q.
    let u = c.args.work.now in
    let v = c.enter.new.work in
    let w = c.switch_items.new.work in
    let e = c.in_ok-enter.ensures in
    let d = context_in u c.args.context in
    let of = type_in u.nodes c.args.of in
    let same : context_in v c.in_a_switch.result ≡ in_a_switch d =
    ap (context_in v) c.in_a_switch.ensures
    ∙ ap in_a_switch (context_kept u v c.args.context e.grows c.requires.context) in
    let a = c.in_ok-cases.ensures xs (parts_kept u v c.args.kids.now xs e.grows q) in
    in_scope_cases u v w c.leave.new.work (switch_items (in_a_switch d) of xs (readings xs) no_cases)
    c.in_ok-cases.cases e
    (subst (λ (o : Ty). Answers freely v w (switch_items (in_a_switch d) o xs (readings xs) no_cases) CasesThere IsCases
    (Ok c.in_ok-cases.cases)) (e.grows.types c.args.of c.requires.of)
    (subst (λ (o : meant.Context). Answers freely v w
    (switch_items o (type_in v.nodes c.args.of) xs (readings xs) no_cases) CasesThere IsCases
    (Ok c.in_ok-cases.cases)) same a))
    c.leave.ensures

pub switch_with-returns : goal.switch_with-returns
switch_with-returns t c = λ x xs p q.
    let u = c.args.work.now in
    let v = c.switched.new.work in
    let w = c.switch_body.new.work in
    let d = context_in u c.args.context in
    let a = c.in_ok-on.ensures x p in
    let b = c.in_ok-cases.ensures xs (parts_kept u v c.args.kids.now xs a.grows.keeps q) in
    switches u v w c.does.new.work (reading x)
    (λ of. in_scope (switch_items (in_a_switch d) of xs (readings xs) no_cases)) c.args.pos c.in_ok-on.on
    c.in_ok-cases.cases c.does.result a
    (subst (λ (e : meant.Context). Answers freely v w
    (in_scope (switch_items (in_a_switch e) (type_in v.nodes c.in_ok-on.on.of) xs (readings xs) no_cases))
    CasesThere IsCases (Ok c.in_ok-cases.cases))
    (context_kept u v c.args.context a.grows.keeps c.requires.context) b)
    (subst (λ (k : StmtKind). Adds w c.does.new.work k c.args.pos c.does.result) c.in_ok-kind.ensures c.does.ensures)

pub for_loop-for_with-requires : goal.for_loop-for_with-requires
for_loop-for_with-requires t c =
    let x = c.in-Some.x in
    let w = c.args.work.now in
    let h = four_that w c.args.kids.now x.head.first x.head.second x.head.third x.last c.in-Some.ensures
    c.requires.parts in
    let body = one_statement w x.last h.fourth h.have in
    (omega arith, (c.requires.whole, (c.requires.context, ((h.first, h.second, h.third), body))))

pub for_loop-returns-in-None : goal.for_loop-returns-in-None
for_loop-returns-in-None t c =
    for_refused c.args.work.now c.args.kids.now (context_in c.args.work.now c.args.context) c.args.pos c.in-None.ensures

pub for_loop-returns-in-Some : goal.for_loop-returns-in-Some
for_loop-returns-in-Some t c =
    let x = c.in-Some.x in
    for_answers c.args.work.now _ c.args.kids.now x.head.first x.head.second x.head.third x.last
    (context_in c.args.work.now c.args.context) c.args.pos _ c.in-Some.ensures c.for_with.ensures

pub switch-switch_with-requires : goal.switch-switch_with-requires
switch-switch_with-requires t c =
    let u = c.args.work.now in
    let h = subst (λ (z : List ℕ). PartsWithin u c.args.depth z) c.in-Some.ensures c.requires.parts in (
      omega arith,
      (
        c.requires.whole,
        (
          c.requires.context,
          (
            first_within u c.in-Some.x.first c.in-Some.x.others.now h,
            others_within u c.in-Some.x.first c.in-Some.x.others.now h,
          ),
        ),
      ),
    )

pub switch-returns-in-None : goal.switch-returns-in-None
switch-returns-in-None t c =
    switch_refused c.args.work.now c.args.kids.now
    (context_in c.args.work.now c.args.context) c.args.pos c.in-None.ensures

pub switch-returns-in-Some : goal.switch-returns-in-Some
switch-returns-in-Some t c =
    switch_answers c.args.work.now _ c.args.kids.now c.in-Some.x.first c.in-Some.x.others.now
    (context_in c.args.work.now c.args.context) c.args.pos _ c.in-Some.ensures c.switch_with.ensures

-- ---- what calls ask for

pub statement-declaration-requires : goal.statement-declaration-requires
statement-declaration-requires t c =
    record {
      whole = c.requires.whole;
      parts = kids_in c.args.work.now c.args.node.now c.as_slice-kids.result.now c.requires.node
          c.as_slice-kids.ensures;
    }

pub statement-evaluate-requires : goal.statement-evaluate-requires
statement-evaluate-requires t c =
    record {
      whole = c.requires.whole;
      parts = kids_in c.args.work.now c.args.node.now c.as_slice-kids.result.now c.requires.node
          c.as_slice-kids.ensures;
    }

pub statement-return_at-requires : goal.statement-return_at-requires
statement-return_at-requires t c =
    record {
      whole = c.requires.whole;
      context = c.requires.context;
      parts = kids_in c.args.work.now c.args.node.now c.as_slice-kids.result.now c.requires.node
          c.as_slice-kids.ensures;
    }

pub statement-does-requires : goal.statement-does-requires
statement-does-requires t c =
    record { whole = c.requires.whole; values = none_there (term_count c.args.work.now.nodes) }

pub statement-returns-in_default : goal.statement-returns-in_default
statement-returns-in_default t c = λ t' xs n.
    let u = c.args.work.now in
    let d = context_in u c.args.context in
    let k = c.args.node.now.kind in
    as_statement u c.scoped.new.work (statement_of k t' xs (readings xs) d) (node k t' xs) c.scoped.result
    (answers_at freely u c.scoped.new.work (statement_of k t' xs (readings xs) d)
    (in_scope (inside_of k t' xs (readings xs) d)) OnlyThere IsItems c.scoped.result
    (λ s h. scope_is k t' xs (readings xs) d s
    (is_scoped k c.in_default.not-Declaration c.in_default.not-EmptyStatement c.in_default.not-ExpressionStatement
    c.in_default.not-Break c.in_default.not-Continue c.in_default.not-Return))
    (c.scoped.ensures t' xs n))

pub scoped-inside-requires : goal.scoped-inside-requires
scoped-inside-requires t c =
    let u = c.args.work.now in
    let v = c.enter.new.work in
    let e = c.in_ok-enter.ensures in (
      omega arith,
      (
        e.whole,
        (
          context_there u v c.args.context e.grows c.requires.context,
          node_within_kept u v c.args.node.now e.grows c.requires.node,
        ),
      ),
    )

pub scoped-leave-requires : goal.scoped-leave-requires
scoped-leave-requires t c =
    let n = node_within_kept c.args.work.now c.enter.new.work c.args.node.now c.in_ok-enter.ensures.grows
    c.requires.node
    in
    record { whole = (c.in_ok-items.ensures n.token n.syntax n.is).whole }

pub scoped-returns-in_err-enter : goal.scoped-returns-in_err-enter
scoped-returns-in_err-enter t c =
    let p = err_from_is_err_and c.from_residual.result c.from_residual.ensures.1 in λ t' xs n.
    let u = c.args.work.now in
    let v = c.enter.new.work in
    rw (p.1, p.2) (enter_failed u v v (inside_of c.args.node.now.kind t' xs (readings xs) (context_in u c.args.context))
    OnlyThere IsItems _ c.in_err-enter.ensures)

pub scoped-returns-in_err-items : goal.scoped-returns-in_err-items
scoped-returns-in_err-items t c =
    let p = err_from_is_err_and c.from_residual-in_err-items.result c.from_residual-in_err-items.ensures.1 in λ t' xs n.
    let u = c.args.work.now in
    let v = c.enter.new.work in
    let w = c.inside.new.work in
    let e = c.in_ok-enter.ensures in
    rw (p.1, p.2) (in_scope_failed u v w (inside_of c.args.node.now.kind t' xs (readings xs)
    (context_in u c.args.context)) OnlyThere IsItems OnlyThere IsItems _ e
    (at_same freely v w (λ (d : meant.Context). inside_of c.args.node.now.kind t' xs (readings xs) d) OnlyThere IsItems
    (Err c.in_err-items.field-0.0) _ _ (context_kept u v c.args.context e.grows c.requires.context)
    (c.in_err-items.ensures t' xs (node_kept u v c.args.node.now t' xs e.grows n))))

pub inside-block-requires : goal.inside-block-requires
inside-block-requires t c = (
  omega arith,
  (
    c.requires.whole,
    (
      c.requires.context,
      kids_in c.args.work.now c.args.node.now c.as_slice-kids.result.now c.requires.node
          c.as_slice-kids.ensures,
    ),
  ),
)

pub inside-if_one-requires : goal.inside-if_one-requires
inside-if_one-requires t c = (
  omega arith,
  (
    c.requires.whole,
    (
      c.requires.context,
      kinds_in c.args.work.now c.args.node.now c.as_slice-kids.result.now Kinds.If c.requires.node
          c.as_slice-kids.ensures c.in-If.is,
    ),
  ),
)

pub inside-if_else-requires : goal.inside-if_else-requires
inside-if_else-requires t c = (
  omega arith,
  (
    c.requires.whole,
    (
      c.requires.context,
      kinds_in c.args.work.now c.args.node.now c.as_slice-kids.result.now Kinds.IfElse c.requires.node
          c.as_slice-kids.ensures c.in-IfElse.is,
    ),
  ),
)

pub inside-while_loop-requires : goal.inside-while_loop-requires
inside-while_loop-requires t c = (
  omega arith,
  (
    c.requires.whole,
    (
      c.requires.context,
      kinds_in c.args.work.now c.args.node.now c.as_slice-kids.result.now Kinds.While c.requires.node
          c.as_slice-kids.ensures c.in-While.is,
    ),
  ),
)

pub inside-do_loop-requires : goal.inside-do_loop-requires
inside-do_loop-requires t c = (
  omega arith,
  (
    c.requires.whole,
    (
      c.requires.context,
      kinds_in c.args.work.now c.args.node.now c.as_slice-kids.result.now Kinds.Do c.requires.node
          c.as_slice-kids.ensures c.in-Do.is,
    ),
  ),
)

pub inside-for_loop-requires : goal.inside-for_loop-requires
inside-for_loop-requires t c = (
  omega arith,
  (
    c.requires.whole,
    (
      c.requires.context,
      kinds_in c.args.work.now c.args.node.now c.as_slice-kids.result.now Kinds.For c.requires.node
          c.as_slice-kids.ensures c.in-For.is,
    ),
  ),
)

pub inside-switch-requires : goal.inside-switch-requires
inside-switch-requires t c = (
  omega arith,
  (
    c.requires.whole,
    (
      c.requires.context,
      kids_in c.args.work.now c.args.node.now c.as_slice-kids.result.now c.requires.node
          c.as_slice-kids.ensures,
    ),
  ),
)

pub inside-returns-in_default : goal.inside-returns-in_default
inside-returns-in_default t c = λ t' xs n s h.
    let d = context_in c.args.work.now c.args.context in
    let z = c.in_default in
    ap (λ (e : Doing meant.Items). e s) (nothing_inside c.args.node.now.kind t' xs
    (readings xs) d z.not-Block z.not-If z.not-IfElse z.not-While z.not-Do z.not-For z.not-Switch)
    ∙ ap (λ (p : Pos). (let e : Doing meant.Items = refuse 120 p in e) s) n.place

pub all_items-returns-in_err-more : goal.all_items-returns-in_err-more
all_items-returns-in_err-more t c =
    let p = err_from_is_err_and c.from_residual.result c.from_residual.ensures.1 in λ xs q.
    let u = c.args.work.now in
    let v = c.loop-part.work in
    let w = c.item.new.work in
    let d = context_in u c.args.context in
    let same = context_kept u v c.args.context c.loop-part.invariant.keeps c.requires.context in
    rw (p.1, p.2) (gathered u w d (readings xs) (Err c.in_err-more.field-0.0)
    (so_far_fails (λ r. r.item d) u v w xs c.in-Some.part.first c.in-Some.part.others.now c.loop-part.items
    c.in_err-more.field-0.0
    (subst (λ (z : List ℕ). SoFar (λ r. r.item d) u v xs z c.loop-part.items) c.in-Some.ensures
    (c.loop-part.invariant.found xs q))
    (λ y b. at_same freely v w (λ (o : meant.Context). (reading y).item o) ItemsThere IsItems
    (Err c.in_err-more.field-0.0) _ _ same
    (some_items v w ((reading y).item (context_in v c.args.context)) y (Err c.in_err-more.field-0.0)
    (c.in_err-more.ensures y b)))))

pub block-does-requires : goal.block-does-requires
block-does-requires t c =
    let a = c.in_ok-items.ensures c.requires.parts.syntax c.requires.parts.are in
    record { whole = a.whole; values = none_there (term_count c.all_items.new.work.nodes) }

pub substatement-item-requires : goal.substatement-item-requires
substatement-item-requires t c =
    let u = c.args.work.now in
    let v = c.enter.new.work in
    let e = c.in_ok-enter.ensures in (
      omega arith,
      (
        e.whole,
        (
          context_there u v c.args.context e.grows c.requires.context,
          still_within u v c.args.k e.grows c.requires.part.part,
        ),
      ),
    )

pub substatement-leave-requires : goal.substatement-leave-requires
substatement-leave-requires t c =
    let p = still_within c.args.work.now c.enter.new.work c.args.k c.in_ok-enter.ensures.grows c.requires.part.part in
    record { whole = (c.in_ok-items.ensures p.syntax p.is).whole }

pub substatement-alone-requires : goal.substatement-alone-requires
substatement-alone-requires t c =
    let p = kind_kept c.args.work.now c.enter.new.work c.args.k c.in_ok-enter.ensures.grows c.requires.part in
    ap length c.as_slice.ensures.value ∙ (c.in_ok-items.ensures p.part.syntax p.part.is).there.1 p.has

pub substatement-returns-in_err-enter : goal.substatement-returns-in_err-enter
substatement-returns-in_err-enter t c =
    let p = err_from_is_err_and c.from_residual.result c.from_residual.ensures.1 in λ x q.
    let u = c.args.work.now in
    let v = c.enter.new.work in
    let d = (reading x).item (context_in u c.args.context) in
    rw (p.1, p.2) (failed freely u v v (in_scope d) (λ i. give i.actions) ItemsThere IsItems ActionThere IsOnlyAction _
    (enter_failed u v v d ItemsThere IsItems _ c.in_err-enter.ensures))

pub substatement-returns-in_err-items : goal.substatement-returns-in_err-items
substatement-returns-in_err-items t c =
    let p = err_from_is_err_and c.from_residual-in_err-items.result c.from_residual-in_err-items.ensures.1 in λ x q.
    let u = c.args.work.now in
    let v = c.enter.new.work in
    let w = c.item.new.work in
    let e = c.in_ok-enter.ensures in
    let d = (reading x).item (context_in u c.args.context) in
    rw (p.1, p.2) (failed freely u w w (in_scope d) (λ i. give i.actions) ItemsThere IsItems ActionThere IsOnlyAction _
    (in_scope_failed u v w d ItemsThere IsItems ItemsThere IsItems _ e
    (at_same freely v w (λ (o : meant.Context). (reading x).item o) ItemsThere IsItems
    (Err c.in_err-items.field-0.0) _ _ (context_kept u v c.args.context e.grows c.requires.context)
    (some_items v w ((reading x).item (context_in v c.args.context)) x (Err c.in_err-items.field-0.0)
    (c.in_err-items.ensures x (part_kept u v c.args.k x e.grows q))))))

pub if_with-returns-in_err-body : goal.if_with-returns-in_err-body
if_with-returns-in_err-body t c =
    let p = err_from_is_err_and c.from_residual-in_err-body.result c.from_residual-in_err-body.ensures.1 in λ x y px py.
    let u = c.args.work.now in
    let v = c.test.new.work in
    let w = c.substatement.new.work in
    let d = context_in u c.args.context in
    let a = c.in_ok-on.ensures x px in
    rw (p.1, p.2) (second_failed u v w (test (reading x)) (λ m. substatement d (reading y))
    (λ m z. does If (one_term m) (actions z) c.args.pos) (term_in v.nodes c.in_ok-on.on)
    (TermThere v c.in_ok-on.on) ActionThere IsOnlyAction OnlyThere IsItems _
    (freed u v (test (reading x)) TermThere IsTerm (Ok c.in_ok-on.on) a)
    (at_same freely v w (λ (o : meant.Context). substatement o (reading y)) ActionThere IsOnlyAction
    (Err c.in_err-body.field-0.0) _ _ (context_kept u v c.args.context a.grows.keeps c.requires.context)
    (c.in_err-body.ensures y (part_kept u v c.args.b y a.grows.keeps py))))

pub while_with-substatement-requires : goal.while_with-substatement-requires
while_with-substatement-requires t c =
    let u = c.args.work.now in
    let v = c.test.new.work in
    let a = c.in_ok-on.ensures c.requires.first.syntax c.requires.first.is in
    let there = context_there u v c.args.context a.grows.keeps c.requires.context in (
      omega arith,
      (
        a.whole,
        (
          subst (λ (o : Context). ContextThere v o) (sym c.in_a_loop.ensures) there,
          kind_kept u v c.args.b a.grows.keeps c.requires.second,
        ),
      ),
    )

pub while_with-does-requires : goal.while_with-does-requires
while_with-does-requires t c =
    let u = c.args.work.now in
    let v = c.test.new.work in
    let w = c.substatement.new.work in
    let a = c.in_ok-on.ensures c.requires.first.syntax c.requires.first.is in
    let f = still_within u v c.args.b a.grows.keeps c.requires.second.part in
    let b = c.in_ok-body.ensures f.syntax f.is in
    record {
      whole = b.whole;
      values = one_there (term_count w.nodes) c.in_ok-on.on (term_there v w c.in_ok-on.on b.grows a.there);
    }

pub while_with-returns-in_err-body : goal.while_with-returns-in_err-body
while_with-returns-in_err-body t c =
    let p = err_from_is_err_and c.from_residual-in_err-body.result c.from_residual-in_err-body.ensures.1 in λ x y px py.
    let u = c.args.work.now in
    let v = c.test.new.work in
    let w = c.substatement.new.work in
    let d = in_a_loop (context_in u c.args.context) in
    let a = c.in_ok-on.ensures x px in
    let same : context_in v c.in_a_loop.result ≡ d =
    ap (context_in v) c.in_a_loop.ensures
    ∙ ap in_a_loop (context_kept u v c.args.context a.grows.keeps c.requires.context) in
    rw (p.1, p.2) (second_failed u v w (test (reading x)) (λ m. substatement d (reading y))
    (λ m z. does While (one_term m) (actions z) c.args.pos) (term_in v.nodes c.in_ok-on.on)
    (TermThere v c.in_ok-on.on) ActionThere IsOnlyAction OnlyThere IsItems _
    (freed u v (test (reading x)) TermThere IsTerm (Ok c.in_ok-on.on) a)
    (at_same freely v w (λ (o : meant.Context). substatement o (reading y)) ActionThere IsOnlyAction
    (Err c.in_err-body.field-0.0) _ _ same (c.in_err-body.ensures y (part_kept u v c.args.b y a.grows.keeps py))))

pub do_with-substatement-requires : goal.do_with-substatement-requires
do_with-substatement-requires t c = (
  omega arith,
  (
    c.requires.whole,
    (
      subst (λ (o : Context). ContextThere c.args.work.now o) (sym c.in_a_loop.ensures) c.requires.context,
      c.requires.first,
    ),
  ),
)

pub do_with-test-requires : goal.do_with-test-requires
do_with-test-requires t c =
    let a = c.in_ok-body.ensures c.requires.first.part.syntax c.requires.first.part.is in
    record {
      whole = a.whole;
      part = still_within c.args.work.now c.substatement.new.work c.args.b a.grows c.requires.second;
    }

pub do_with-does-requires : goal.do_with-does-requires
do_with-does-requires t c =
    let u = c.args.work.now in
    let v = c.substatement.new.work in
    let w = c.test.new.work in
    let a = c.in_ok-body.ensures c.requires.first.part.syntax c.requires.first.part.is in
    let f = still_within u v c.args.b a.grows c.requires.second in
    let b = c.in_ok-on.ensures f.syntax f.is in
    record { whole = b.whole; values = one_there (term_count w.nodes) c.in_ok-on.on b.there }

pub do_with-returns-in_err-body : goal.do_with-returns-in_err-body
do_with-returns-in_err-body t c =
    let p = err_from_is_err_and c.from_residual.result c.from_residual.ensures.1 in λ x y px py.
    let u = c.args.work.now in
    let v = c.substatement.new.work in
    let d = in_a_loop (context_in u c.args.context) in
    let same : context_in u c.in_a_loop.result ≡ d = ap (context_in u) c.in_a_loop.ensures in
    rw (p.1, p.2) (failed freely u v v (substatement d (reading x))
    (λ z. test (reading y) >>= λ m. does Do (one_term m) (actions z) c.args.pos) ActionThere IsOnlyAction
    OnlyThere IsItems _
    (at_same freely u v (λ (o : meant.Context). substatement o (reading x)) ActionThere IsOnlyAction
    (Err c.in_err-body.field-0.0) _ _ same (c.in_err-body.ensures x px)))

pub do_with-returns-in_err-on : goal.do_with-returns-in_err-on
do_with-returns-in_err-on t c =
    let p = err_from_is_err_and c.from_residual-in_err-on.result c.from_residual-in_err-on.ensures.1 in λ x y px py.
    let u = c.args.work.now in
    let v = c.substatement.new.work in
    let w = c.test.new.work in
    let d = in_a_loop (context_in u c.args.context) in
    let same : context_in u c.in_a_loop.result ≡ d = ap (context_in u) c.in_a_loop.ensures in
    let a = subst (λ (o : meant.Context). Answers freely u v (substatement o (reading x)) ActionThere IsOnlyAction
    (Ok c.in_ok-body.body)) same (c.in_ok-body.ensures x px) in
    rw (p.1, p.2) (second_failed u v w (substatement d (reading x)) (λ z. test (reading y))
    (λ z m. does Do (one_term m) (actions z) c.args.pos) (action_in v c.in_ok-body.body ∷ [])
    (ActionThere v c.in_ok-body.body) TermThere IsTerm OnlyThere IsItems _ a
    (freed v w (test (reading y)) TermThere IsTerm (Err _)
    (c.in_err-on.ensures y (part_kept u v c.args.b y a.grows py))))

pub if_else_with-substatement-requires : goal.if_else_with-substatement-requires
if_else_with-substatement-requires t c =
    let u = c.args.work.now in
    let v = c.test.new.work in
    let a = c.in_ok-on.ensures c.requires.first.syntax c.requires.first.is in (
      omega arith,
      (
        a.whole,
        (
          context_there u v c.args.context a.grows.keeps c.requires.context,
          kind_kept u v c.args.b a.grows.keeps c.requires.second,
        ),
      ),
    )

pub if_else_with-substatement-requires-2 : goal.if_else_with-substatement-requires-2
if_else_with-substatement-requires-2 t c =
    let u = c.args.work.now in
    let v = c.test.new.work in
    let w = c.substatement.new.work in
    let a = c.in_ok-on.ensures c.requires.first.syntax c.requires.first.is in
    let f = still_within u v c.args.b a.grows.keeps c.requires.second.part in
    let b = c.in_ok-body.ensures f.syntax f.is in
    let k = keeps_then u v w a.grows.keeps b.grows in (
      omega arith,
      (
        b.whole,
        (
          context_there u w c.args.context k c.requires.context,
          kind_kept u w c.args.c k c.requires.third,
        ),
      ),
    )

pub if_else_with-does-requires : goal.if_else_with-does-requires
if_else_with-does-requires t c =
    let u = c.args.work.now in
    let v = c.test.new.work in
    let w = c.substatement.new.work in
    let x = c.substatement-2.new.work in
    let a = c.in_ok-on.ensures c.requires.first.syntax c.requires.first.is in
    let f = still_within u v c.args.b a.grows.keeps c.requires.second.part in
    let b = c.in_ok-body.ensures f.syntax f.is in
    let g = still_within u w c.args.c (keeps_then u v w a.grows.keeps b.grows) c.requires.third.part in
    let e = c.in_ok-other.ensures g.syntax g.is in
    record {
      whole = e.whole;
      values = one_there (term_count x.nodes) c.in_ok-on.on
          (term_there w x c.in_ok-on.on e.grows (term_there v w c.in_ok-on.on b.grows a.there));
    }

pub if_else_with-returns-in_err-body : goal.if_else_with-returns-in_err-body
if_else_with-returns-in_err-body t c =
    let p = err_from_is_err_and c.from_residual-in_err-body.result c.from_residual-in_err-body.ensures.1 in
    λ x y z px py pz.
    let u = c.args.work.now in
    let v = c.test.new.work in
    let w = c.substatement.new.work in
    let d = context_in u c.args.context in
    let a = c.in_ok-on.ensures x px in
    rw (p.1, p.2) (second_failed u v w (test (reading x)) (λ m. substatement d (reading y))
    (λ m fs. substatement d (reading z) >>= λ gs. does If (one_term m) (actions (fs ++ gs)) c.args.pos)
    (term_in v.nodes c.in_ok-on.on) (TermThere v c.in_ok-on.on) ActionThere IsOnlyAction OnlyThere IsItems _
    (freed u v (test (reading x)) TermThere IsTerm (Ok c.in_ok-on.on) a)
    (at_same freely v w (λ (o : meant.Context). substatement o (reading y)) ActionThere IsOnlyAction
    (Err c.in_err-body.field-0.0) _ _ (context_kept u v c.args.context a.grows.keeps c.requires.context)
    (c.in_err-body.ensures y (part_kept u v c.args.b y a.grows.keeps py))))

pub if_else_with-returns-in_err-other : goal.if_else_with-returns-in_err-other
if_else_with-returns-in_err-other t c =
    let p = err_from_is_err_and c.from_residual-in_err-other.result c.from_residual-in_err-other.ensures.1 in
    λ x y z px py pz.
    let u = c.args.work.now in
    let v = c.test.new.work in
    let w = c.substatement.new.work in
    let e = c.substatement-2.new.work in
    let d = context_in u c.args.context in
    let a = c.in_ok-on.ensures x px in
    let b = subst (λ (o : meant.Context). Answers freely v w (substatement o (reading y)) ActionThere IsOnlyAction
    (Ok c.in_ok-body.body)) (context_kept u v c.args.context a.grows.keeps c.requires.context)
    (c.in_ok-body.ensures y (part_kept u v c.args.b y a.grows.keeps py)) in
    let k = keeps_then u v w a.grows.keeps b.grows in
    rw (p.1, p.2) (third_failed u v w e (test (reading x)) (λ m. substatement d (reading y))
    (λ m fs. substatement d (reading z)) (λ m fs gs. does If (one_term m) (actions (fs ++ gs)) c.args.pos)
    (term_in v.nodes c.in_ok-on.on) (action_in w c.in_ok-body.body ∷ []) (TermThere v c.in_ok-on.on)
    (ActionThere w c.in_ok-body.body) ActionThere IsOnlyAction OnlyThere IsItems _
    (freed u v (test (reading x)) TermThere IsTerm (Ok c.in_ok-on.on) a) b
    (at_same freely w e (λ (o : meant.Context). substatement o (reading z)) ActionThere IsOnlyAction
    (Err c.in_err-other.field-0.0) _ _ (context_kept u w c.args.context k c.requires.context)
    (c.in_err-other.ensures z (part_kept u w c.args.c z k pz))))

pub for_with-substatement-requires : goal.for_with-substatement-requires
for_with-substatement-requires t c =
    let u = c.args.work.now in
    let v = c.for_head.new.work in
    let r = c.requires.head in
    let a = c.in_ok-head.ensures r.0.syntax r.1.syntax r.2.syntax r.0.is r.1.is r.2.is in
    let there = context_there u v c.args.context a.grows c.requires.context in (
      omega arith,
      (
        a.whole,
        (
          subst (λ (o : Context). ContextThere v o) (sym c.in_a_loop.ensures) there,
          kind_kept u v c.args.x.last a.grows c.requires.body,
        ),
      ),
    )

pub for_with-does-requires : goal.for_with-does-requires
for_with-does-requires t c =
    let u = c.args.work.now in
    let v = c.for_head.new.work in
    let w = c.substatement.new.work in
    let r = c.requires.head in
    let h = c.in_ok-head.head in
    let a = c.in_ok-head.ensures r.0.syntax r.1.syntax r.2.syntax r.0.is r.1.is r.2.is in
    let f = still_within u v c.args.x.last a.grows c.requires.body.part in
    let b = c.in_ok-body.ensures f.syntax f.is in
    record {
      whole = b.whole;
      values = subst (λ (k : StmtKind). ValuesThere (term_count w.nodes) k) (sym c.for_kind.ensures)
          (for_names_values w h c.in_ok-body.body (maybe_there v w h.test b.grows a.there.1)
          (maybe_there v w h.step b.grows a.there.2));
    }

pub for_with-returns-in_err-body : goal.for_with-returns-in_err-body
for_with-returns-in_err-body t c =
    let p = err_from_is_err_and c.from_residual-in_err-body.result c.from_residual-in_err-body.ensures.1 in
    λ x1 x2 x3 x4 p1 p2 p3 p4.
    let u = c.args.work.now in
    let v = c.for_head.new.work in
    let w = c.substatement.new.work in
    let d = context_in u c.args.context in
    let h = c.in_ok-head.head in
    let a = c.in_ok-head.ensures x1 x2 x3 p1 p2 p3 in
    let same : context_in v c.in_a_loop.result ≡ in_a_loop d =
    ap (context_in v) c.in_a_loop.ensures
    ∙ ap in_a_loop (context_kept u v c.args.context a.grows c.requires.context) in
    rw (p.1, p.2) (second_failed u v w (for_head d x1 x2 x3 (reading x1) (reading x2) (reading x3))
    (λ o. substatement (in_a_loop d) (reading x4))
    (λ o body. give (one_action (for_action o.items o.test o.step body c.args.pos))) (head_in v h)
    (HeadThere v h) ActionThere IsOnlyAction OnlyThere IsItems _ a
    (at_same freely v w (λ (o : meant.Context). substatement o (reading x4)) ActionThere IsOnlyAction
    (Err c.in_err-body.field-0.0) _ _ same (c.in_err-body.ensures x4
    (part_kept u v c.args.x.last x4 a.grows p4))))

pub switch_body-switch_items-requires : goal.switch_body-switch_items-requires
switch_body-switch_items-requires t c =
    let u = c.args.work.now in
    let v = c.enter.new.work in
    let e = c.in_ok-enter.ensures in
    let there = context_there u v c.args.context e.grows c.requires.context in (
      omega arith,
      (
        e.whole,
        (
          subst (λ (o : Context). ContextThere v o) (sym c.in_a_switch.ensures) there,
          (
            type_there u v c.args.of e.grows c.requires.of,
            within_kept u v c.args.kids.now e.grows c.requires.parts,
          ),
        ),
      ),
    )

pub switch_body-leave-requires : goal.switch_body-leave-requires
switch_body-leave-requires t c =
    let p = within_kept c.args.work.now c.enter.new.work c.args.kids.now c.in_ok-enter.ensures.grows c.requires.parts in
    record { whole = (c.in_ok-cases.ensures p.syntax p.are).whole }

pub switch_body-returns-in_err-enter : goal.switch_body-returns-in_err-enter
switch_body-returns-in_err-enter t c =
    let p = err_from_is_err_and c.from_residual.result c.from_residual.ensures.1 in λ xs q.
    let u = c.args.work.now in
    let v = c.enter.new.work in
    rw (p.1, p.2) (enter_failed u v v (switch_items (in_a_switch (context_in u c.args.context))
    (type_in u.nodes c.args.of) xs (readings xs) no_cases) CasesThere IsCases _ c.in_err-enter.ensures)

pub switch_body-returns-in_err-cases : goal.switch_body-returns-in_err-cases
switch_body-returns-in_err-cases t c =
    let p = err_from_is_err_and c.from_residual-in_err-cases.result c.from_residual-in_err-cases.ensures.1 in λ xs q.
    let u = c.args.work.now in
    let v = c.enter.new.work in
    let w = c.switch_items.new.work in
    let e = c.in_ok-enter.ensures in
    let d = context_in u c.args.context in
    let of = type_in u.nodes c.args.of in
    let same : context_in v c.in_a_switch.result ≡ in_a_switch d =
    ap (context_in v) c.in_a_switch.ensures
    ∙ ap in_a_switch (context_kept u v c.args.context e.grows c.requires.context) in
    rw (p.1, p.2) (in_scope_failed u v w (switch_items (in_a_switch d) of xs (readings xs) no_cases) CasesThere IsCases
    CasesThere IsCases _ e
    (at_same freely v w (λ (o : Ty). switch_items (in_a_switch d) o xs (readings xs) no_cases) CasesThere IsCases
    (Err c.in_err-cases.field-0.0) _ _ (e.grows.types c.args.of c.requires.of)
    (at_same freely v w (λ (o : meant.Context). switch_items o (type_in v.nodes c.args.of) xs (readings xs) no_cases)
    CasesThere IsCases (Err c.in_err-cases.field-0.0) _ _ same
    (c.in_err-cases.ensures xs (parts_kept u v c.args.kids.now xs e.grows q)))))

pub switch_items-returns-in_err-cases : goal.switch_items-returns-in_err-cases
switch_items-returns-in_err-cases t c =
    let p = err_from_is_err_and c.from_residual.result c.from_residual.ensures.1 in λ xs q.
    let u = c.args.work.now in
    let v = c.loop-part.work in
    let w = c.switch_item.new.work in
    let i = c.loop-part.invariant in
    let d = context_in u c.args.context in
    let of = type_in u.nodes c.args.of in
    rw (p.1, p.2) (cases_fail d of u v w xs c.in-Some.part.first c.in-Some.part.others.now c.loop-part.cases
    c.in_err-cases.field-0.0
    (subst (λ (z : List ℕ). CasesSoFar d of u v xs z c.loop-part.cases) c.in-Some.ensures (i.found xs q))
    (λ y b.
    at_same freely v w (λ (o : meant.Context). switch_item o of y (reading y) (cases_in v c.loop-part.cases)) CasesThere
    IsCases (Err c.in_err-cases.field-0.0) _ _ (context_kept u v c.args.context i.keeps c.requires.context)
    (at_same freely v w (λ (o : Ty). switch_item (context_in v c.args.context) o y (reading y)
    (cases_in v c.loop-part.cases)) CasesThere IsCases (Err c.in_err-cases.field-0.0) _ _
    (i.keeps.types c.args.of c.requires.of) (c.in_err-cases.ensures y b))))

pub switch_with-switch_body-requires : goal.switch_with-switch_body-requires
switch_with-switch_body-requires t c =
    let u = c.args.work.now in
    let v = c.switched.new.work in
    let a = c.in_ok-on.ensures c.requires.on.syntax c.requires.on.is in (
      omega arith,
      (
        a.whole,
        (
          context_there u v c.args.context a.grows.keeps c.requires.context,
          (a.there.0, within_kept u v c.args.kids.now a.grows.keeps c.requires.parts),
        ),
      ),
    )

pub switch_with-does-requires : goal.switch_with-does-requires
switch_with-does-requires t c =
    let u = c.args.work.now in
    let v = c.switched.new.work in
    let w = c.switch_body.new.work in
    let a = c.in_ok-on.ensures c.requires.on.syntax c.requires.on.is in
    let f = within_kept u v c.args.kids.now a.grows.keeps c.requires.parts in
    let b = c.in_ok-cases.ensures f.syntax f.are in
    record {
      whole = b.whole;
      values = subst (λ (k : StmtKind). ValuesThere (term_count w.nodes) k) (sym c.in_ok-kind.ensures)
          (one_there (term_count w.nodes) c.in_ok-on.on.value (term_there v w c.in_ok-on.on.value b.grows a.there.1));
    }

pub switch_with-returns-in_err-cases : goal.switch_with-returns-in_err-cases
switch_with-returns-in_err-cases t c =
    let p = err_from_is_err_and c.from_residual-in_err-cases.result c.from_residual-in_err-cases.ensures.1 in
    λ x xs px q.
    let u = c.args.work.now in
    let v = c.switched.new.work in
    let w = c.switch_body.new.work in
    let d = context_in u c.args.context in
    let on = c.in_ok-on.on in
    let a = c.in_ok-on.ensures x px in
    rw (p.1, p.2) (second_failed u v w (switched (reading x))
    (λ o. in_scope (switch_items (in_a_switch d) o.of xs (readings xs) no_cases))
    (λ o cases. does (Switch cases.items.vars cases.labels) (one_term o.value)
    (actions cases.items.actions) c.args.pos) (switched_on v on)
    (SwitchedThere v on) CasesThere IsCases OnlyThere IsItems _
    (freed u v (switched (reading x)) SwitchedThere IsSwitched (Ok on) a)
    (at_same freely v w (λ (o : meant.Context).
    in_scope (switch_items (in_a_switch o) (type_in v.nodes on.of) xs (readings xs) no_cases)) CasesThere
    IsCases (Err c.in_err-cases.field-0.0) _ _ (context_kept u v c.args.context a.grows.keeps c.requires.context)
    (c.in_err-cases.ensures xs (parts_kept u v c.args.kids.now xs a.grows.keeps q))))

-- ---- what stands in the braces of a switch

pub switch_item-labelled-requires : goal.switch_item-labelled-requires
switch_item-labelled-requires t c =
    let u = c.args.work.now in
    let n = c.node_at-node.result.now in
    record {
      whole = c.requires.whole;
      there = c.requires.of;
      parts = kids_in u n c.as_slice-kids.result.now
          (node_low u c.args.k n c.requires.part c.node_at-node.ensures) c.as_slice-kids.ensures;
      cases =
          c.requires.cases;
    }

pub switch_item-labelled-requires-in-Default : goal.switch_item-labelled-requires-in-Default
switch_item-labelled-requires-in-Default t c =
    let u = c.args.work.now in
    let n = c.node_at-node.result.now in
    record {
      whole = c.requires.whole;
      there = c.requires.of;
      parts = kids_in u n c.as_slice-kids.result.now
          (node_low u c.args.k n c.requires.part c.node_at-node.ensures) c.as_slice-kids.ensures;
      cases =
          c.requires.cases;
    }

pub switch_item-returns-in-Case : goal.switch_item-returns-in-Case
switch_item-returns-in-Case t c = λ x p.
    let u = c.args.work.now in
    let w = c.labelled.new.work in
    let n = c.node_at-node.result.now in
    let r = c.labelled.result in
    let d = context_in u c.args.context in
    let of = type_in u.nodes c.args.of in
    let cs = cases_in u c.args.cases in
    let o = opened u c.args.k x n p c.node_at-node.ensures in
    subst (λ (y : Syn). Answers freely u w (switch_item d of y (reading y) cs) CasesThere IsCases r)
    (sym (o.is ∙ ap (λ (k : NodeKind). node k o.token o.parts) c.in-Case.is))
    (subst (λ (e : Doing statements.Cases). Answers freely u w e CasesThere IsCases r)
    (sym (case_item d of o.token o.parts cs))
    (subst (λ (q : Pos). Answers freely u w (case_label (readings o.parts) of >>= λ v. add_label v q cs) CasesThere
    IsCases r) (sym o.node.place)
    (c.labelled.ensures o.parts (subst (λ (ks : List ℕ). AreParts u ks o.parts)
    (sym c.as_slice-kids.ensures) o.node.parts))))

pub switch_item-returns-in-Default : goal.switch_item-returns-in-Default
switch_item-returns-in-Default t c = λ x p.
    let u = c.args.work.now in
    let w = c.labelled-in-Default.new.work in
    let n = c.node_at-node.result.now in
    let r = c.labelled-in-Default.result in
    let d = context_in u c.args.context in
    let of = type_in u.nodes c.args.of in
    let cs = cases_in u c.args.cases in
    let o = opened u c.args.k x n p c.node_at-node.ensures in
    subst (λ (y : Syn). Answers freely u w (switch_item d of y (reading y) cs) CasesThere IsCases r)
    (sym (o.is ∙ ap (λ (k : NodeKind). node k o.token o.parts) c.in-Default.is))
    (subst (λ (e : Doing statements.Cases). Answers freely u w e CasesThere IsCases r)
    (sym (default_item d of o.token o.parts cs))
    (subst (λ (q : Pos). Answers freely u w (case_label (readings o.parts) of >>= λ v. add_label v q cs) CasesThere
    IsCases r) (sym o.node.place)
    (c.labelled-in-Default.ensures o.parts (subst (λ (ks : List ℕ). AreParts u ks o.parts)
    (sym c.as_slice-kids.ensures) o.node.parts))))

pub switch_item-returns-in_default : goal.switch_item-returns-in_default
switch_item-returns-in_default t c = λ x p.
    let u = c.args.work.now in
    let w = c.further_item.new.work in
    let n = c.node_at-node.result.now in
    let r = c.further_item.result in
    let d = context_in u c.args.context in
    let of = type_in u.nodes c.args.of in
    let cs = cases_in u c.args.cases in
    let o = opened u c.args.k x n p c.node_at-node.ensures in
    subst (λ (y : Syn). Answers freely u w (switch_item d of y (reading x) cs) CasesThere IsCases r) (sym o.is)
    (subst (λ (e : Doing statements.Cases). Answers freely u w e CasesThere IsCases r)
    (sym (other_item d of n.kind o.token o.parts (reading x) cs c.in_default.not-Case c.in_default.not-Default))
    (c.further_item.ensures x p))

pub further_item-returns-in_err-more : goal.further_item-returns-in_err-more
further_item-returns-in_err-more t c =
    let m = err_from_is_err_and c.from_residual.result c.from_residual.ensures.1 in λ x p.
    let u = c.args.work.now in
    let w = c.item.new.work in
    let d = context_in u c.args.context in
    let cs = cases_in u c.args.cases in
    rw (m.1, m.2) (failed freely u w w ((reading x).item d)
    (λ i. give (let z : statements.Cases = record { items = both cs.items i; labels = cs.labels } in z))
    (ItemThere x) IsItems CasesThere IsCases _ (c.in_err-more.ensures x p))

pub further_item-returns : goal.further_item-returns
further_item-returns t c = λ x p.
    let u = c.args.work.now in
    let w = c.item.new.work in
    let d = context_in u c.args.context in
    let e = c.in_ok-longer.ensures in
    more_items u w ((reading x).item d) c.in_ok-more.more c.args.cases c.in_ok-longer.longer
    (some_items u w ((reading x).item d) x (Ok c.in_ok-more.more) (c.in_ok-more.ensures x p))
    c.requires.cases e.vars e.actions e.labels
