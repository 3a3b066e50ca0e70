use Rattle.std.proofs.Common.{◌≡◌, List, [], ℕ, ap, subst, ◌∙◌, IfOk}
use Rattle.class_format.specs.Meaning.{lowest_that, plain_field, plain_method, spelling}
use Rattle.class_format.specs.KnownTexts.{is_code, is_constant_value}
use Rattle.class_write.specs.Writing.Written.{FitsWritten, FitsCode}
use Rattle.class_format.proofs.Recursion.{all_of}
use Rattle.class_write.proofs.Plain.{written-same, read_back, pool-written, codes-fit, count-fits}
use Rattle.class_write.proofs.write.write_class.Goals as goal

pub write-requires : goal.write-requires
write-requires c =
    let class = c.args.class.now in
    record {
      pool = c.requires.front.pool.count;
      items = all_of FitsWritten class.pool (pool-written class.pool c.requires.front.pool.items);
      interfaces = c.requires.front.names.interface_count;
      fields = count-fits (plain_field class.pool) class.fields c.requires.field_count;
      methods = count-fits (plain_method class.pool) class.methods c.requires.method_count;
      codes = all_of (λ m. FitsCode m.code) class.methods (codes-fit class.pool [] class.methods c.requires.methods);
    }

spelled : (c : goal.After-write) → IfOk c.write.result (λ bytes. bytes ≡ spelling c.args.class.now)
spelled c =
    let class = c.args.class.now in
    let constant_name = c.text_index-constant_name.ensures ∙ ap (lowest_that is_constant_value) c.as_slice-pool.ensures in
    let code_name = c.text_index-code_name.ensures ∙ ap (lowest_that is_code) c.as_slice-pool.ensures in
    subst (λ (z : List ℕ). IfOk c.write.result (λ bytes. bytes ≡ z)) (written-same class c.text_index-constant_name.result c.text_index-code_name.result constant_name code_name) c.write.ensures

pub returns-clause-spelled : goal.returns-clause-spelled
returns-clause-spelled c = spelled c

pub returns-clause-read_back : goal.returns-clause-read_back
returns-clause-read_back c = read_back c.args.class.now c.requires c.write.result (spelled c)
