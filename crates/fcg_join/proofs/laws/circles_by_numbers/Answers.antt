use Rattle.fcg_join.proofs.Circles.{circle_by_number, number_by_circle}
use Rattle.fcg_join.proofs.laws.circles_by_numbers.Goals as goal

pub returns : goal.returns
returns c = λ types rows d h x t a. (circle_by_number types rows h d x t a, number_by_circle types rows h d x t a)
