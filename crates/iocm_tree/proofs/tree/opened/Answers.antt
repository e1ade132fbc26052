use Rattle.std.proofs.Common.{arith, ◌≡◌, ◌<◌, ◌-◌, length, sym, ◌∙◌}
use Rattle.std.specs.Vec.{vec_len}
use Rattle.std.proofs.lemmas.Bool.{eqb-true, eqb-false}
use Rattle.iocm_tree.specs.declared.tree.Tree.{Row}
use Rattle.iocm_tree.specs.Trees.{tree_of, parts_of}
use Rattle.iocm_tree.proofs.Trees.{tree-Row}
use Rattle.iocm_tree.proofs.LettingGo.{nodes_below, work_below, work_rises, work_alone, work_under}
use Rattle.iocm_tree.proofs.tree.opened.Goals as goal

pub returns-in_default : goal.returns-in_default
returns-in_default g c = work_rises c.args.rest.items c.args.tree

pub returns-then-is_empty : goal.returns-then-is_empty
returns-then-is_empty g c =
    let none : vec_len c.args.rest ≡ 0 =
    eqb-true (vec_len c.args.rest) 0 (sym c.is_empty.ensures ∙ c.if-is_empty.true) in
    work_alone c.args.rest.items c.in-Some.inner.items c.args.tree (omega (arith, none, c.args.rest.ok.0))
    (work_below (tree_of c.args.tree) (parts_of c.in-Some.inner.items) c.in-Some.ensures)

pub returns-in_default-pop : goal.returns-in_default-pop
returns-in_default-pop g c = work_rises c.args.rest.items c.args.tree

pub returns : goal.returns
returns g c =
    let some = eqb-false (vec_len c.args.rest) 0 (sym c.is_empty.ensures ∙ c.if-is_empty.false) in
    let others : 0 < length c.args.rest.items = grind (arith, some, c.args.rest.ok.0) in
    let place : vec_len c.push_reserved-2.new.self - 1 ≡ length c.pop.new.self.items =
    omega (arith, c.push_reserved-2.ensures.len, c.pop.new.self.ok.0) in
    work_under c.args.rest.items c.push_reserved.new.self.items c.in-Some.inner.items c.pop.new.self.items
    c.push_reserved-2.new.self.items c.rotate_right.new.self.items
    c.args.tree c.in-Some-pop.last (Row c.push_reserved.new.self) (vec_len c.push_reserved-2.new.self - 1) others
    (nodes_below (tree_of c.args.tree) (parts_of c.in-Some.inner.items) c.in-Some.ensures)
    c.in-Some-pop.ensures.items c.push_reserved.ensures.items (tree-Row c.push_reserved.new.self)
    c.push_reserved-2.ensures.items place c.rotate_right.ensures.items
