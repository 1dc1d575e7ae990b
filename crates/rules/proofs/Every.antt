-- Laws of `Every`, a property of each element of a list. Assumes nothing.
use mathlib.Core.List.{List, [], ◌∷◌, ◌++◌, map}
use Rattle.rules.specs.Bounds.{Every}

pub every_append : {A : Type 0} (P : A → Type 0) (xs ys : List A) → Every P xs → Every P ys → Every P (xs ++ ys)
every_append P [] ys h g = g
every_append P (x ∷ xs) ys h g = (h.0, every_append P xs ys h.1 g)

pub every_weaken : {A : Type 0} (P Q : A → Type 0) → ((x : A) → P x → Q x) → (xs : List A) → Every P xs → Every Q xs
every_weaken P Q f [] h = tt
every_weaken P Q f (x ∷ xs) h = (f x h.0, every_weaken P Q f xs h.1)

pub every_map : {A B : Type 0} (f : A → B) (P : A → Type 0) (Q : B → Type 0) → ((x : A) → P x → Q (f x)) → (xs : List A) → Every P xs → Every Q (map f xs)
every_map f P Q g [] h = tt
every_map f P Q g (x ∷ xs) h = (g x h.0, every_map f P Q g xs h.1)

pub every_both : {A : Type 0} (P Q : A → Type 0) (xs : List A) → Every P xs → Every Q xs → Every (λ (x : A). P x × Q x) xs
every_both P Q [] h g = tt
every_both P Q (x ∷ xs) h g = ((h.0, g.0), every_both P Q xs h.1 g.1)
