use Rattle.std.proofs.Common.{◌≤◌, sym, arith}
use Rattle.jvm_base.specs.Descriptors.{args_slots}
use Rattle.code_table.specs.Items.{interface_method_text}
use Rattle.code_table.proofs.Slots.{few_slots}
use Rattle.code_table.proofs.members.on_interface.Goals as goal

pub args_slots-slots-requires : goal.args_slots-slots-requires
args_slots-slots-requires c =
    rw c.get.ensures (few_slots (interface_method_text c.args.descs.now c.u2-item.result) c.in-Some.desc.now (sym c.in-Some.ensures))

pub overflow_add-slots : goal.overflow_add-slots
overflow_add-slots c =
    let few : args_slots c.get.result.now.args ≤ 255 =
    rw c.get.ensures (few_slots (interface_method_text c.args.descs.now c.u2-item.result) c.in-Some.desc.now (sym c.in-Some.ensures)) in
    rw c.args_slots-slots.ensures (omega arith)
