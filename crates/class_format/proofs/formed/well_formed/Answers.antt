use Rattle.class_format.proofs.FormedClass.{is_class, is_formed}
use Rattle.class_format.proofs.formed.well_formed.Goals as goal

pub returns-then-is_formed_pool : goal.returns-then-is_formed_pool
returns-then-is_formed_pool c =
    let pool = c.is_formed_pool.ensures.0 c.if-is_formed_pool.true in (
      λ t. is_class c.args.class.now c.as_slice-pool.result.now c.as_slice-pool.ensures (pool, c.has_formed_parts.ensures.0 t),
      λ is. c.has_formed_parts.ensures.1 (is_formed c.args.class.now c.as_slice-pool.result.now c.as_slice-pool.ensures is).1,
    )
