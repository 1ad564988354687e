-- The words of a class file that is written, beside those of the view.
use Rattle.std.specs.Prelude.{◌≡◌, ℕ, List, codes}
use Rattle.fcg_make.specs.Needs.{dynamic_name, dynamic_desc}

-- the names of the attributes, and the name and the descriptor of each `invokedynamic`
pub record AreWords (code rows name desc : List ℕ) : Type 0 where
  pub code_is : code ≡ codes "Code"
  pub rows_are : rows ≡ codes "BootstrapMethods"
  pub name_is : name ≡ dynamic_name
  pub desc_is : desc ≡ dynamic_desc
