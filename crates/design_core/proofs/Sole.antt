-- The table of a design's drives tells each net's driver and each net's faults.
use Rattle.std.proofs.Common.{◌≡◌, ◌∙◌, ◌<◌, ◌≤◌, ℕ, zero, suc, true, false, List, Option, None, Some, inl, inr, ap, sym, refl, map, length, replicate, get_or, arith}
use Rattle.std.specs.Prelude.{◌==◌, is_some, option_map, slice_get, unwrap_or}
use Rattle.std.proofs.lemmas.Bool.{cases_lt, ne_eqb}
use Rattle.std.proofs.lemmas.List.{length-map, length-replicate, get_or-replicate, get_or_default}
use Rattle.std.proofs.lemmas.Option.{slice_get-map, slice_get-get_or, same_Some}
use Rattle.design_core.specs.declared.drives.Driven.{Driven}
use Rattle.design_core.specs.declared.drives.Driven.TheVariants.{Never, Once, Twice}
use Rattle.design_core.specs.declared.element.Driver.{Driver}
use Rattle.design_core.specs.declared.element.Driver.TheVariants.{Constant}
use Rattle.design_core.specs.declared.parts.Parts.{Parts}
use Rattle.design_core.specs.Design.{net_count, driver, driver_count}
use Rattle.design_core.specs.Drives.{AreTold, IsFirstTwice, drives_of, put_all, the_driver, told_at}
use Rattle.design_core.specs.Faults.{IsLeastTwice, IsOnce}
use Rattle.design_core.specs.Reads.{is_never, never_at}
use Rattle.design_core.specs.Tables.{AreDrivers}
use Rattle.design_core.proofs.Counting.{counted, first_is, first_of}
use Rattle.design_core.proofs.Entries.{Tells, driven_by, entry, tells}
use Rattle.design_core.proofs.Filling.{put_all-length}
use Rattle.design_core.proofs.Outwards.{found_at}

-- the table of a design
abbrev pub IsTableOf : Parts → List Driven → Type 0
IsTableOf p table = table ≡ put_all (drives_of p) (replicate (net_count p) Never)

pub table_length : (p : Parts) (table : List Driven) → IsTableOf p table → length table ≡ net_count p
table_length p table is = ap length is ∙ put_all-length (drives_of p) (replicate (net_count p) Never) ∙ length-replicate (net_count p) Never

-- an entry tells of the net's drivers
pub told : (p : Parts) (table : List Driven) (n : ℕ) → IsTableOf p table → n < net_count p → Tells (get_or table n Never) (driver_count p n) (first_of n (drives_of p))
told p table n is within =
    let start = replicate (net_count p) Never in
    let size : length (replicate (net_count p) Never) ≡ net_count p = length-replicate (net_count p) Never in
    let empty : get_or (replicate (net_count p) Never) n Never ≡ Never = get_or-replicate (net_count p) n Never Never within in
    let here : get_or table n Never ≡ driven_by n (drives_of p) Never =
    ap (λ t. get_or t n Never) is ∙ entry n (drives_of p) start (omega (arith, size, within)) ∙ ap (driven_by n (drives_of p)) empty in
    rw (here, ← counted p n) (tells n (drives_of p))

-- a driver that an entry tells is the net's
driver_told : (p : Parts) (n c : ℕ) (s : Driven) (d : Driver) → Tells s c (first_of n (drives_of p)) → the_driver s ≡ Some d → d ≡ driver p n
driver_told p n c Never d says is =
    let same : Constant false ≡ d = cc in
    sym same ∙ sym (ap (λ o. unwrap_or o (Constant false)) says.1) ∙ first_is p n
driver_told p n c (Once e) d says is =
    let same : e ≡ d = cc in
    sym same ∙ sym (ap (λ o. unwrap_or o (Constant false)) says.1) ∙ first_is p n
driver_told p n c Twice d says is = absurd (cc)

once_told : (c : ℕ) (s : Driven) (o : Option Driver) → Tells s c o → is_some (the_driver s) ≡ true → c ≤ 1
once_told c Never o says is = omega (arith, says.0)
once_told c (Once e) o says is = omega (arith, says.0)
once_told c Twice o says is = absurd (cc)

twice_told : (c : ℕ) (s : Driven) (o : Option Driver) → Tells s c o → the_driver s ≡ None → 1 < c
twice_told c Never o says is = absurd (cc)
twice_told c (Once e) o says is = absurd (cc)
twice_told c Twice o says is = says

-- nothing drives a net just where its entry says so
never_told : (c : ℕ) (s : Driven) (o : Option Driver) → Tells s c o → is_never s ≡ (c == 0)
never_told c Never o says = rw (says.0) refl
never_told c (Once e) o says = rw (says.0) refl
never_told c Twice o says = sym (ne_eqb c 0 (λ e. omega (arith, e, says)))

-- a net that is not there has no driver
abbrev pub AreInRange : Parts → Type 0
AreInRange p = (n : ℕ) → 0 < driver_count p n → n < net_count p

-- drivers that are told
told_one : (table : List Driven) (drivers : List Driver) (n : ℕ) → AreTold table drivers → n < length table → (d : Driver) × (slice_get drivers n ≡ Some d) × (told_at table n ≡ Some d)
told_one table drivers n are within =
    let size : length drivers ≡ length table = sym (length-map drivers Some) ∙ ap length are ∙ length-map table the_driver in
    let found = found_at drivers n (omega (arith, size, within)) in
    let left : slice_get (map Some drivers) n ≡ Some (Some found.0) = slice_get-map Some drivers n ∙ ap (option_map Some) found.1 in
    let right : slice_get (map the_driver table) n ≡ Some (told_at table n) = slice_get-map the_driver table n ∙ ap (option_map the_driver) (slice_get-get_or table n Never within) in
    let both : Some (told_at table n) ≡ Some (Some found.0) = sym right ∙ ap (λ l. slice_get l n) (sym are) ∙ left in
    (found.0, found.1, same_Some (told_at table n) (Some found.0) both)

pub are_drivers : (p : Parts) (table : List Driven) (drivers : List Driver) → IsTableOf p table → AreTold table drivers → AreDrivers p drivers
are_drivers p table drivers is are n within =
    let size = table_length p table is in
    let one = told_one table drivers n are (omega (arith, size, within)) in
    let same = driver_told p n (driver_count p n) (get_or table n Never) one.0 (told p table n is within) one.2 in
    one.1 ∙ ap Some same

pub are_once : (p : Parts) (table : List Driven) (drivers : List Driver) → IsTableOf p table → AreInRange p → AreTold table drivers → IsOnce p
are_once p table drivers is ranged are n = elim (cases_lt n (net_count p)) [
  | inl within ↦
      let size = table_length p table is in
      let one = told_one table drivers n are (omega (arith, size, within)) in
      let some : is_some (told_at table n) ≡ true = rw (one.2) refl in
      once_told (driver_count p n) (get_or table n Never) (first_of n (drives_of p)) (told p table n is within) some
  | inr past ↦ few (driver_count p n) (ranged n) past
]
  where
    few : (c : ℕ) → (0 < c → n < net_count p) → net_count p ≤ n → c ≤ 1
    few zero range past = omega arith
    few (suc c) range past = let within = range (omega arith) in absurd (omega (arith, within, past))

-- the least net that the table tells twice
pub least_twice : (p : Parts) (table : List Driven) (n : ℕ) → IsTableOf p table → IsFirstTwice table n → (n < net_count p) × IsLeastTwice p n
least_twice p table n is first =
    let size = table_length p table is in
    let within : n < net_count p = omega (arith, size, first.within) in (
      within,
      record {
        here = twice_told (driver_count p n) (get_or table n Never) (first_of n (drives_of p)) (told p table n is within) first.here;
        earlier = λ m below. once_told (driver_count p m) (get_or table m Never) (first_of m (drives_of p)) (told p table m is (omega (arith, below, within))) (first.earlier m below);
      },
    )

-- whether nothing drives a net that is there
pub never_is : (p : Parts) (table : List Driven) (n : ℕ) → IsTableOf p table → n < net_count p → never_at table n ≡ (driver_count p n == 0)
never_is p table n is within =
    let size = table_length p table is in
    ap is_never (get_or_default table n Twice Never (omega (arith, size, within)))
    ∙ never_told (driver_count p n) (get_or table n Never) (first_of n (drives_of p)) (told p table n is within)
