-- Offered to the crates above: two lists whose elements are related place by place.
use Rattle.std.proofs.Common.{◌≡◌, List, [], ◌∷◌, ◌++◌, refl}
use Rattle.std.specs.List.{AllZip}

module _ {X Y : Type 0} (R : X → Y → Type 0) where
  -- one more pair at the end
  pub zip_push : (xs : List X) (ys : List Y) (x : X) (y : Y) → AllZip R xs ys → R x y → AllZip R (xs ++ x ∷ []) (ys ++ y ∷ [])
  zip_push [] [] x y all here = (here, tt)
  zip_push [] (z ∷ zs) x y all here = absurd all
  zip_push (z ∷ zs) [] x y all here = absurd all
  zip_push (a ∷ xs) (b ∷ ys) x y all here = (all.0, zip_push xs ys x y all.1 here)

  -- an element has a partner
  pub zip_partner : (xs : List X) (x : X) (rest : List X) (ys : List Y) → AllZip R (xs ++ x ∷ rest) ys → (y : Y) × R x y
  zip_partner [] x rest [] all = absurd all
  zip_partner [] x rest (y ∷ ys) all = (y, all.0)
  zip_partner (z ∷ zs) x rest [] all = absurd all
  zip_partner (z ∷ zs) x rest (y ∷ ys) all = zip_partner zs x rest ys all.1

  -- where each element has at most one partner, the other list is the only one
  pub zip_unique : ((x : X) (y z : Y) → R x y → R x z → y ≡ z) → (xs : List X) (ys zs : List Y) → AllZip R xs ys → AllZip R xs zs → ys ≡ zs
  zip_unique one [] [] [] a b = refl
  zip_unique one [] [] (z ∷ zs) a b = absurd b
  zip_unique one [] (y ∷ ys) zs a b = absurd a
  zip_unique one (x ∷ xs) [] zs a b = absurd a
  zip_unique one (x ∷ xs) (y ∷ ys) [] a b = absurd b
  zip_unique one (x ∷ xs) (y ∷ ys) (z ∷ zs) a b = (λ i. one x y z a.0 b.0 i ∷ zip_unique one xs ys zs a.1 b.1 i)

  -- and its front is known
  pub zip_front : ((x : X) (y z : Y) → R x y → R x z → y ≡ z) → (xs : List X) (x : X) (rest : List X) (ys : List Y) (y : Y) (zs : List Y) → AllZip R xs ys → R x y → AllZip R (xs ++ x ∷ rest) zs → (more : List Y) × (zs ≡ ys ++ y ∷ more)
  zip_front one [] x rest [] y [] a here all = absurd all
  zip_front one [] x rest [] y (z ∷ zs) a here all = (zs, (λ i. one x z y all.0 here i ∷ zs))
  zip_front one [] x rest (w ∷ ws) y zs a here all = absurd a
  zip_front one (v ∷ vs) x rest [] y zs a here all = absurd a
  zip_front one (v ∷ vs) x rest (w ∷ ws) y [] a here all = absurd all
  zip_front one (v ∷ vs) x rest (w ∷ ws) y (z ∷ zs) a here all =
      let tail = zip_front one vs x rest ws y zs a.1 here all.1 in
      (tail.0, (λ i. one v z w all.0 a.0 i ∷ tail.1 i))
