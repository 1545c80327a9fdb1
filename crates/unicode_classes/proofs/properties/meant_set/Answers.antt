use Rattle.std.proofs.Common.{ℕ, ap, ◌∙◌}
use Rattle.std.specs.Prelude.{◌==◌}
use Rattle.ucd_category.specs.GeneralCategory.{general_category, general_category_number, general_category_eq}
use Rattle.ucd_category.specs.GeneralCategoryGroup.{in_group}
use Rattle.ucd_category.proofs.GeneralCategoryGroupLemmas.{in_group-group_bounds}
use Rattle.unicode.specs.Binary.{is_alphabetic}
use Rattle.unicode.specs.Steps.{is_between, run_value}
use Rattle.unicode_classes.proofs.PropertyLaws.{between_same, between_one, given_test}
use Rattle.unicode_classes.proofs.properties.meant_set.Goals as goal

pub returns-in-Alphabetic : goal.returns-in-Alphabetic
returns-in-Alphabetic c =
    rw c.in-Alphabetic.is (given_test c.set_of.result (λ n. is_between 1 1 (run_value c.alphabetic.result.now n)) is_alphabetic
    (λ n l. ap (is_between 1 1) (c.alphabetic.ensures.values n l) ∙ between_one (is_alphabetic n)) c.set_of.ensures)

pub returns-in-Category : goal.returns-in-Category
returns-in-Category c =
    let v = c.number-number.result in
    let runs = c.runs.result.now in
    rw c.in-Category.is (given_test c.set_of-in-Category.result (λ n. is_between v v (run_value runs n)) (λ n. general_category_eq (general_category n) c.in-Category.value)
    (λ n l. between_same v (run_value runs n) ∙ ap (λ (x : ℕ). x == v) (c.runs.ensures.values n l) ∙ ap (λ (y : ℕ). general_category_number (general_category n) == y) c.number-number.ensures)
    c.set_of-in-Category.ensures)

pub returns-in-Categories : goal.returns-in-Categories
returns-in-Categories c =
    let b = c.bounds-bounds.result in
    let runs = c.runs-in-Categories.result.now in
    rw c.in-Categories.is (given_test c.set_of-in-Categories.result (λ n. is_between b.0 b.1 (run_value runs n)) (λ n. in_group c.in-Categories.group (general_category n))
    (λ n l. ap (is_between b.0 b.1) (c.runs-in-Categories.ensures.values n l) ∙ ap (λ (d : ℕ × ℕ). is_between d.0 d.1 (general_category_number (general_category n))) c.bounds-bounds.ensures
    ∙ in_group-group_bounds c.in-Categories.group (general_category n))
    c.set_of-in-Categories.ensures)
