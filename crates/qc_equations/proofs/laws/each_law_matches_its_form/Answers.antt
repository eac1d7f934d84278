use Rattle.std.proofs.Common.{◌≡◌, ◌∙◌, ◌+◌, ◌%◌, ap, refl}
use Rattle.std.specs.Int.Count.{ones, ones-ones, ones_step}
use Rattle.qc_equations.proofs.laws.each_law_matches_its_form.Goals as goal

-- how many ones the masks of the examples have
of_255 : ones 255 ≡ 8
of_255 = ones-ones 8

of_254 : ones 254 ≡ 7
of_254 = ones_step 254 ∙ ap (λ n. 254 % 2 + n) (ones-ones 7)

of_0 : ones 0 ≡ 0
of_0 = ones-ones 0

of_all : ones 4294967295 ≡ 32
of_all = ones-ones 32

pub returns-clause-slices : goal.returns-clause-slices
returns-clause-slices c =
    (refl, (refl, (refl, (refl, (refl, (refl, (rw of_255 refl, (rw of_254 refl, (rw of_0 refl, (rw of_all refl, (refl, (refl, (refl, (refl, tt))))))))))))))
