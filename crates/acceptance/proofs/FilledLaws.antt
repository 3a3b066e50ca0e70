-- The code of a class file has bytes, and not many.
use Rattle.std.proofs.Common.{ℕ, List, [], ◌∷◌, ◌++◌, Option, Some, None, map, arith}
use Rattle.std.specs.List.{AllByRecursion}
use Rattle.jvm_base.specs.declared.code_item.CodeItem.{CodeItem}
use Rattle.jvm_base.specs.declared.pool.PoolItem.{PoolItem}
use Rattle.class_format.specs.declared.class.ClassFile.{ClassFile}
use Rattle.class_format.specs.declared.class.MethodItem.{MethodItem}
use Rattle.class_format.specs.Meaning.{IsClass, IsMethod, HasCode, Spelled, contents_of, holds_code, plain_method}
use Rattle.class_format.specs.Spelling.{Member}
use Rattle.acceptance.proofs.LinkedLaws.{IsFilled, HasFilledCode}

filled : (pool : List PoolItem) (flags : ℕ) (o : Option CodeItem) (contents : List (List ℕ)) → HasCode pool flags o contents → IsFilled o
filled pool flags None contents h = tt
filled pool flags (Some c) contents h =
    let code = h.3.code in
    let sizes = code.sizes in
    let l = sizes.short in
    let n = code.count in
    (sizes.some, omega arith, omega arith)

filled_spelled : (pool : List PoolItem) (earlier : List MethodItem) (sources : List Member) (xs : List MethodItem) → Spelled (IsMethod pool) earlier sources xs → AllByRecursion (λ m. IsFilled m.code) xs
filled_spelled pool earlier [] [] h = tt
filled_spelled pool earlier [] (x ∷ xs) h = absurd h
filled_spelled pool earlier (a ∷ sources) [] h = absurd h
filled_spelled pool earlier (a ∷ sources) (x ∷ xs) h = (filled pool a.flags x.code (contents_of (holds_code pool) a.attributes) h.0.code, filled_spelled pool (earlier ++ x ∷ []) sources xs h.1)

-- of each class file
pub filled_code : (f : ClassFile) → IsClass f → HasFilledCode f
filled_code f h = filled_spelled f.pool [] (map (plain_method f.pool) f.methods) f.methods h.methods
