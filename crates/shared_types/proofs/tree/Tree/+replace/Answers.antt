use Rattle.shared_types.proofs.tree.Tree.+replace.Goals as goal

pub returns-in_ok-after-in-Pair : goal.returns-in_ok-after-in-Pair
returns-in_ok-after-in-Pair t c =
    rw c.in-Pair.is (c.replace_parts.ensures c.args.was c.args.now (rw c.deref.ensures at c.in_ok-before-in-Pair.ensures) (rw c.deref-in-Pair.ensures at c.in_ok-after-in-Pair.ensures))
