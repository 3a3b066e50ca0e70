-- Code that isn't decoded.
use Rattle.std.specs.Prelude.{ℕ, List, [], ◌∷◌, Option, Some, None, Result, Ok, Err}
use Rattle.jvm_base.specs.declared.code_item.CodeItem.{CodeItem}
use Rattle.jvm_base.specs.declared.pool.PoolItem.{PoolItem}
use Rattle.class_format.specs.declared.class.ClassFile.{ClassFile}
use Rattle.code_table.specs.declared.error.CodeErr.{CodeErr}
use Rattle.code_table.specs.declared.code.Code.{Code as Decoded}
use Rattle.code_table.specs.Decoded.{decoded}
use Rattle.link_rules.specs.declared.error.LinkErr.{LinkErr}
use Rattle.link_rules.specs.declared.error.LinkErr.TheVariants.{Code}
use Rattle.link_rules.specs.Numbers.{numbered}

-- of code that is asked for
abbrev pub refused_code : ℕ → ℕ → Result Decoded CodeErr → List LinkErr
refused_code class method (Ok code) = []
refused_code class method (Err why) = Code class method why ∷ []

-- of a method's code, where it has some
abbrev pub undecoded : ℕ → ℕ → List PoolItem → Option CodeItem → List LinkErr
undecoded class method pool None = []
undecoded class method pool (Some c) = refused_code class method (decoded c pool)

-- of a file's methods
abbrev pub undecoded_file : ℕ → ClassFile → List LinkErr
undecoded_file class f = numbered (λ k m. undecoded class k f.pool m.code) 0 f.methods
