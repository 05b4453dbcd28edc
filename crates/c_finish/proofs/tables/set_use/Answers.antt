use Rattle.std.proofs.Common.{◌∷◌, length, refl, sym, ap, subst, ◌∙◌}
use Rattle.c_elaborator.specs.declared.work.Used.{Used}
use Rattle.c_elaborator.specs.Work.{UseIsThere}
use Rattle.c_plain_rules.specs.Tables.{HasUses}
use Rattle.c_finish.proofs.Firsts.{object_set, function_set, length-set}
use Rattle.c_finish.proofs.tables.set_use.Goals as goal

pub set_place-requires : goal.set_place-requires
set_place-requires c = subst (UseIsThere (length c.args.table.now.objects.items)
    (length c.args.table.now.functions.items)) c.in-Object.is c.requires

pub set_place-requires-in-Function : goal.set_place-requires-in-Function
set_place-requires-in-Function c =
    subst (UseIsThere (length c.args.table.now.objects.items) (length c.args.table.now.functions.items))
    c.in-Function.is c.requires

pub returns-in-Object : goal.returns-in-Object
returns-in-Object c = record {
  adds = λ us h. subst (λ (x : Used). HasUses (record { what = x; pos = c.args.u.pos } ∷ us)
      (record c.args.table.now { objects = c.set_place.new.table })) (sym c.in-Object.is)
      (object_set c.args.table.now (record c.args.table.now { objects = c.set_place.new.table }) c.in-Object.k
      c.args.u.pos us c.set_place.ensures refl h);
  objects = ap length c.set_place.ensures ∙ length-set c.args.table.now.objects.items c.in-Object.k _;
  functions = refl;
}

pub returns-in-Function : goal.returns-in-Function
returns-in-Function c = record {
  adds = λ us h. subst (λ (x : Used). HasUses (record { what = x; pos = c.args.u.pos } ∷ us)
      (record c.args.table.now { functions = c.set_place-in-Function.new.table })) (sym c.in-Function.is)
      (function_set c.args.table.now (record c.args.table.now { functions = c.set_place-in-Function.new.table })
      c.in-Function.k c.args.u.pos us c.set_place-in-Function.ensures refl h);
  objects = refl;
  functions = ap length c.set_place-in-Function.ensures ∙ length-set c.args.table.now.functions.items c.in-Function.k _;
}
