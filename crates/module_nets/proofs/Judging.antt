-- What is seen of names, one mention after another.
use Rattle.std.proofs.Common.{◌≡◌, ◌+◌, ◌<◌, ◌≤◌, ℕ, Bool, true, false, not, ◌&&◌, ◌||◌, cond, Option, Some, None, List, [], ◌∷◌, ◌++◌, ap, sym, ◌∙◌, refl, length}
use Rattle.std.specs.Option.{option_or}
use Rattle.module_nets.specs.declared.mention.Role.{Role}
use Rattle.module_nets.specs.declared.mention.Role.TheVariants.{Bare, Headed, Directed, Wired, Supplied, Owned, Used}
use Rattle.module_nets.specs.declared.seen.Seen.{Seen}
use Rattle.module_nets.specs.Declarations.{agrees, dir_in, range_in, same_range}
use Rattle.module_nets.specs.Seen.{clash, fresh, noted}
use Rattle.module_nets.proofs.Uses.{first_false, second_false}

or_true : (a b : Bool) → b ≡ true → (a || b) ≡ true
or_true true b e = refl
or_true false b e = e

or_left : (a b : Bool) → a ≡ true → (a || b) ≡ true
or_left true b e = refl
or_left false b e = cc

or_false : (a : Bool) → a ≡ (a || false)
or_false true = refl
or_false false = refl

both : (a c : Bool) → a ≡ true → a ≡ (c || true)
both a c e = e ∙ sym (or_true c true refl)

-- of three reasons and a fourth that was none
joined : (a b c w x y : Bool) → w ≡ false → (a || b || c || (true && x)) ≡ ((a || b || c || (w && y)) || x)
joined true b c w x y e = refl
joined false true c w x y e = refl
joined false false true w x y e = refl
joined false false false w x y e = sym (ap (λ v. (v && y) || x) e)

-- what a mention gives is given, unless it was before
given_or : {A : Type 0} (o : Option A) → o ≡ option_or o None
given_or None = refl
given_or (Some a) = refl

pub noted_dir : (s : Seen) (e : Role) → (noted s e).dir ≡ option_or s.dir (dir_in e)
noted_dir s Bare = given_or s.dir
noted_dir s (Headed d t) = refl
noted_dir s (Directed d t) = refl
noted_dir s (Wired t) = given_or s.dir
noted_dir s (Supplied t) = given_or s.dir
noted_dir s Owned = given_or s.dir
noted_dir s Used = given_or s.dir

pub noted_range : (s : Seen) (e : Role) → (noted s e).range ≡ option_or s.range (range_in e)
noted_range s Bare = given_or s.range
noted_range s (Headed d t) = refl
noted_range s (Directed d t) = refl
noted_range s (Wired t) = refl
noted_range s (Supplied t) = refl
noted_range s Owned = given_or s.range
noted_range s Used = given_or s.range

-- nothing clashes with what was never mentioned
pub fresh_clash : (m : Role) → clash fresh m ≡ false
fresh_clash Bare = refl
fresh_clash (Headed d t) = refl
fresh_clash (Directed d t) = refl
fresh_clash (Wired t) = refl
fresh_clash (Supplied t) = refl
fresh_clash Owned = refl
fresh_clash Used = refl

-- after one mention more, a role clashes where it did before or where it does not agree with this mention
pub noted_clash : (s : Seen) (e m : Role) → clash s e ≡ false → clash (noted s e) m ≡ (clash s m || not (agrees e m))
noted_clash s Bare Bare f = both (clash (noted s Bare) Bare) (clash s Bare) (or_left (true || s.given || s.wired || s.used) s.other (or_left (true || s.given || s.wired) s.used (or_left (true || s.given) s.wired (or_left (true) s.given refl))))
noted_clash s Bare (Headed c r) f = both (clash (noted s Bare) (Headed c r)) (clash s (Headed c r)) (or_left (true || s.given || s.wired || s.used) s.other (or_left (true || s.given || s.wired) s.used (or_left (true || s.given) s.wired (or_left (true) s.given refl))))
noted_clash s Bare (Directed c r) f = or_false (clash s (Directed c r))
noted_clash s Bare (Wired r) f = or_false (clash s (Wired r))
noted_clash s Bare (Supplied r) f = both (clash (noted s Bare) (Supplied r)) (clash s (Supplied r)) (or_left (true || s.given || s.wired || s.used) s.other (or_left (true || s.given || s.wired) s.used (or_left (true || s.given) s.wired (or_left (true) s.given refl))))
noted_clash s Bare Owned f = both (clash (noted s Bare) Owned) (clash s Owned) (or_left (true || s.given || s.wired || s.used) s.other (or_left (true || s.given || s.wired) s.used (or_left (true || s.given) s.wired (or_left (true) s.given refl))))
noted_clash s Bare Used f = both (clash (noted s Bare) Used) (clash s Used) (or_left (true || s.given || s.wired) s.other (or_left (true || s.given) s.wired (or_left (true) s.given refl)))
noted_clash s (Headed d t) Bare f = both (clash (noted s (Headed d t)) Bare) (clash s Bare) (or_left (s.bare || true || s.wired || s.used) s.other (or_left (s.bare || true || s.wired) s.used (or_left (s.bare || true) s.wired (or_true (s.bare) true refl))))
noted_clash s (Headed d t) (Headed c r) f = both (clash (noted s (Headed d t)) (Headed c r)) (clash s (Headed c r)) (or_left (s.bare || true || s.wired || s.used) s.other (or_left (s.bare || true || s.wired) s.used (or_left (s.bare || true) s.wired (or_true (s.bare) true refl))))
noted_clash s (Headed d t) (Directed c r) f = both (clash (noted s (Headed d t)) (Directed c r)) (clash s (Directed c r)) (or_left (true || s.used || s.other) (s.wired && not (same_range t r)) (or_left (true || s.used) s.other (or_left (true) s.used refl)))
noted_clash s (Headed d t) (Wired r) f = joined s.wired s.used s.other s.given (not (same_range t r)) (not (same_range s.last r)) (second_false s.bare s.given (first_false ((s.bare || s.given)) s.wired (first_false ((s.bare || s.given) || s.wired) s.used (first_false ((s.bare || s.given) || s.wired || s.used) s.other f))))
noted_clash s (Headed d t) (Supplied r) f = both (clash (noted s (Headed d t)) (Supplied r)) (clash s (Supplied r)) (or_left (s.bare || true || s.wired || s.used) s.other (or_left (s.bare || true || s.wired) s.used (or_left (s.bare || true) s.wired (or_true (s.bare) true refl))))
noted_clash s (Headed d t) Owned f = both (clash (noted s (Headed d t)) Owned) (clash s Owned) (or_left (s.bare || true || s.wired || s.used) s.other (or_left (s.bare || true || s.wired) s.used (or_left (s.bare || true) s.wired (or_true (s.bare) true refl))))
noted_clash s (Headed d t) Used f = both (clash (noted s (Headed d t)) Used) (clash s Used) (or_left (s.bare || true || s.wired) s.other (or_left (s.bare || true) s.wired (or_true (s.bare) true refl)))
noted_clash s (Directed d t) Bare f = both (clash (noted s (Directed d t)) Bare) (clash s Bare) (or_left (s.bare || true || s.wired || s.used) s.other (or_left (s.bare || true || s.wired) s.used (or_left (s.bare || true) s.wired (or_true (s.bare) true refl))))
noted_clash s (Directed d t) (Headed c r) f = both (clash (noted s (Directed d t)) (Headed c r)) (clash s (Headed c r)) (or_left (s.bare || true || s.wired || s.used) s.other (or_left (s.bare || true || s.wired) s.used (or_left (s.bare || true) s.wired (or_true (s.bare) true refl))))
noted_clash s (Directed d t) (Directed c r) f = both (clash (noted s (Directed d t)) (Directed c r)) (clash s (Directed c r)) (or_left (true || s.used || s.other) (s.wired && not (same_range t r)) (or_left (true || s.used) s.other (or_left (true) s.used refl)))
noted_clash s (Directed d t) (Wired r) f = joined s.wired s.used s.other s.given (not (same_range t r)) (not (same_range s.last r)) (first_false (s.given) s.used (first_false (s.given || s.used) s.other (first_false (s.given || s.used || s.other) (s.wired && not (same_range s.last t)) f)))
noted_clash s (Directed d t) (Supplied r) f = both (clash (noted s (Directed d t)) (Supplied r)) (clash s (Supplied r)) (or_left (s.bare || true || s.wired || s.used) s.other (or_left (s.bare || true || s.wired) s.used (or_left (s.bare || true) s.wired (or_true (s.bare) true refl))))
noted_clash s (Directed d t) Owned f = both (clash (noted s (Directed d t)) Owned) (clash s Owned) (or_left (s.bare || true || s.wired || s.used) s.other (or_left (s.bare || true || s.wired) s.used (or_left (s.bare || true) s.wired (or_true (s.bare) true refl))))
noted_clash s (Directed d t) Used f = both (clash (noted s (Directed d t)) Used) (clash s Used) (or_left (s.bare || true || s.wired) s.other (or_left (s.bare || true) s.wired (or_true (s.bare) true refl)))
noted_clash s (Wired t) Bare f = both (clash (noted s (Wired t)) Bare) (clash s Bare) (or_left (s.bare || s.given || true || s.used) s.other (or_left (s.bare || s.given || true) s.used (or_true (s.bare || s.given) true refl)))
noted_clash s (Wired t) (Headed c r) f = both (clash (noted s (Wired t)) (Headed c r)) (clash s (Headed c r)) (or_left (s.bare || s.given || true || s.used) s.other (or_left (s.bare || s.given || true) s.used (or_true (s.bare || s.given) true refl)))
noted_clash s (Wired t) (Directed c r) f = joined s.given s.used s.other s.wired (not (same_range t r)) (not (same_range s.last r)) (first_false (s.wired) s.used (first_false (s.wired || s.used) s.other (first_false (s.wired || s.used || s.other) (s.given && not (same_range s.last t)) f)))
noted_clash s (Wired t) (Wired r) f = both (clash (noted s (Wired t)) (Wired r)) (clash s (Wired r)) (or_left (true || s.used || s.other) (s.given && not (same_range t r)) (or_left (true || s.used) s.other (or_left (true) s.used refl)))
noted_clash s (Wired t) (Supplied r) f = both (clash (noted s (Wired t)) (Supplied r)) (clash s (Supplied r)) (or_left (s.bare || s.given || true || s.used) s.other (or_left (s.bare || s.given || true) s.used (or_true (s.bare || s.given) true refl)))
noted_clash s (Wired t) Owned f = both (clash (noted s (Wired t)) Owned) (clash s Owned) (or_left (s.bare || s.given || true || s.used) s.other (or_left (s.bare || s.given || true) s.used (or_true (s.bare || s.given) true refl)))
noted_clash s (Wired t) Used f = both (clash (noted s (Wired t)) Used) (clash s Used) (or_left (s.bare || s.given || true) s.other (or_true (s.bare || s.given) true refl))
noted_clash s (Supplied t) Bare f = both (clash (noted s (Supplied t)) Bare) (clash s Bare) (or_true (s.bare || s.given || s.wired || s.used) true refl)
noted_clash s (Supplied t) (Headed c r) f = both (clash (noted s (Supplied t)) (Headed c r)) (clash s (Headed c r)) (or_true (s.bare || s.given || s.wired || s.used) true refl)
noted_clash s (Supplied t) (Directed c r) f = both (clash (noted s (Supplied t)) (Directed c r)) (clash s (Directed c r)) (or_left (s.given || s.used || true) (s.wired && not (same_range s.last r)) (or_true (s.given || s.used) true refl))
noted_clash s (Supplied t) (Wired r) f = both (clash (noted s (Supplied t)) (Wired r)) (clash s (Wired r)) (or_left (s.wired || s.used || true) (s.given && not (same_range s.last r)) (or_true (s.wired || s.used) true refl))
noted_clash s (Supplied t) (Supplied r) f = both (clash (noted s (Supplied t)) (Supplied r)) (clash s (Supplied r)) (or_true (s.bare || s.given || s.wired || s.used) true refl)
noted_clash s (Supplied t) Owned f = both (clash (noted s (Supplied t)) Owned) (clash s Owned) (or_true (s.bare || s.given || s.wired || s.used) true refl)
noted_clash s (Supplied t) Used f = both (clash (noted s (Supplied t)) Used) (clash s Used) (or_true (s.bare || s.given || s.wired) true refl)
noted_clash s Owned Bare f = both (clash (noted s Owned) Bare) (clash s Bare) (or_true (s.bare || s.given || s.wired || s.used) true refl)
noted_clash s Owned (Headed c r) f = both (clash (noted s Owned) (Headed c r)) (clash s (Headed c r)) (or_true (s.bare || s.given || s.wired || s.used) true refl)
noted_clash s Owned (Directed c r) f = both (clash (noted s Owned) (Directed c r)) (clash s (Directed c r)) (or_left (s.given || s.used || true) (s.wired && not (same_range s.last r)) (or_true (s.given || s.used) true refl))
noted_clash s Owned (Wired r) f = both (clash (noted s Owned) (Wired r)) (clash s (Wired r)) (or_left (s.wired || s.used || true) (s.given && not (same_range s.last r)) (or_true (s.wired || s.used) true refl))
noted_clash s Owned (Supplied r) f = both (clash (noted s Owned) (Supplied r)) (clash s (Supplied r)) (or_true (s.bare || s.given || s.wired || s.used) true refl)
noted_clash s Owned Owned f = both (clash (noted s Owned) Owned) (clash s Owned) (or_true (s.bare || s.given || s.wired || s.used) true refl)
noted_clash s Owned Used f = both (clash (noted s Owned) Used) (clash s Used) (or_true (s.bare || s.given || s.wired) true refl)
noted_clash s Used Bare f = both (clash (noted s Used) Bare) (clash s Bare) (or_left (s.bare || s.given || s.wired || true) s.other (or_true (s.bare || s.given || s.wired) true refl))
noted_clash s Used (Headed c r) f = both (clash (noted s Used) (Headed c r)) (clash s (Headed c r)) (or_left (s.bare || s.given || s.wired || true) s.other (or_true (s.bare || s.given || s.wired) true refl))
noted_clash s Used (Directed c r) f = both (clash (noted s Used) (Directed c r)) (clash s (Directed c r)) (or_left (s.given || true || s.other) (s.wired && not (same_range s.last r)) (or_left (s.given || true) s.other (or_true (s.given) true refl)))
noted_clash s Used (Wired r) f = both (clash (noted s Used) (Wired r)) (clash s (Wired r)) (or_left (s.wired || true || s.other) (s.given && not (same_range s.last r)) (or_left (s.wired || true) s.other (or_true (s.wired) true refl)))
noted_clash s Used (Supplied r) f = both (clash (noted s Used) (Supplied r)) (clash s (Supplied r)) (or_left (s.bare || s.given || s.wired || true) s.other (or_true (s.bare || s.given || s.wired) true refl))
noted_clash s Used Owned f = both (clash (noted s Used) Owned) (clash s Owned) (or_left (s.bare || s.given || s.wired || true) s.other (or_true (s.bare || s.given || s.wired) true refl))
noted_clash s Used Used f = or_false (clash s Used)
