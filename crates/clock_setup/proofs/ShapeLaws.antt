-- What follows for a set-up whose document has the right shape: its version is the number under "version", and a set-up
-- of version 1 has the values of version 1.
use Rattle.std.proofs.Common.{◌≡◌, ℕ, Bool, true, false, List, ◌∷◌, All, Option, Some, None, codes, refl, sym, ap, ◌∙◌}
use Rattle.std.proofs.Common.{subst}
use Rattle.std.specs.Prelude.{if◌then◌else◌, option_and_then}
use Rattle.std.proofs.lemmas.List.Elements.{All-nil, All-cons}
use Rattle.serde_json.specs.Data.{Data, Items, no_items, item}
use Rattle.clock_terms.specs.declared.setup.Product.{Product}
use Rattle.clock_terms.specs.declared.setup.Bidder.{Bidder}
use Rattle.clock_terms.specs.Limits.{SetupFields, IsOfFirstVersion, IsWithin, is_within, latest_version, first_granule}
use Rattle.clock_terms.specs.Limits.{first_limit}
use Rattle.clock_terms.proofs.WithinLaws.{within_of_test}
use Rattle.clock_json.specs.Tree.{number_at, text_at, items_at, has_members, each, ◌>>=◌}
use Rattle.clock_setup.specs.SetupShape.{added_number, key_count, product_of, bidder_of, fields_from}

if_some : {A : Type 0} (b : Bool) (x y : A) → (if b then Some x else None) ≡ Some y → x ≡ y
if_some true x y h = cc
if_some false x y h = absurd (cc)

-- in version 1, a number that version 2 added has its fixed value
first_added : (version n in_first : ℕ) (key : List ℕ) (value : Data) → version ≡ 1
    → added_number version in_first key value ≡ Some n → n ≡ in_first
first_added version n in_first key value one h =
    if_some true n in_first (sym h ∙ ap (λ v. added_number v in_first key value) one)

-- the granule of a product that was read from all its members
granule_at : (name : Option (List ℕ)) (units supply cap opening granule : Option ℕ) (count : Bool) (product : Product)
    → (name >>= λ name.
    (units >>= λ units. (supply >>= λ supply. (cap >>= λ cap. (opening >>= λ opening. (granule >>= λ granule.
    if count
    then Some (record { name = name; units = units; supply = supply; cap = cap; opening = opening; granule = granule })
    else None))))))
    ≡ Some product → granule ≡ Some product.granule
granule_at None units supply cap opening granule count product h = absurd (cc)
granule_at (Some name) None supply cap opening granule count product h = absurd (cc)
granule_at (Some name) (Some units) None cap opening granule count product h = absurd (cc)
granule_at (Some name) (Some units) (Some supply) None opening granule count product h = absurd (cc)
granule_at (Some name) (Some units) (Some supply) (Some cap) None granule count product h = absurd (cc)
granule_at (Some name) (Some units) (Some supply) (Some cap) (Some opening) None count product h = absurd (cc)
granule_at (Some name) (Some units) (Some supply) (Some cap) (Some opening) (Some granule) count product h =
    ap (λ (p : Product). Some p.granule) (if_some count _ product h)

first_granule_of : (version : ℕ) (value : Data) (product : Product) → version ≡ 1
    → product_of version value ≡ Some product → product.granule ≡ first_granule
unfolding product_of
first_granule_of version value product one h = first_added version product.granule first_granule
    (codes "granule") value one (granule_at (text_at (codes "name") value) (number_at (codes "units") value)
    (number_at (codes "supply") value) (number_at (codes "cap") value) (number_at (codes "opening") value)
    (added_number version first_granule (codes "granule") value) (has_members (key_count version 5) value) product h)

abbrev AreFirst : List Product → Type 0
AreFirst products = All (λ product. product.granule ≡ first_granule) products

first_granules : (version : ℕ) (items : Items) (products : List Product) → version ≡ 1
    → each (product_of version) items ≡ Some products → AreFirst products
first_granules version no_items products one h =
    subst AreFirst (if_some true _ _ h) (All-nil (λ (product : Product). product.granule ≡ first_granule))
first_granules version (item value items) products one h = next (product_of version value) (each (product_of version)
    items) (λ product. first_granule_of version value product one) (λ rest. first_granules version items rest one) h
  where
    next : (first : Option Product) (rest : Option (List Product)) → ((product : Product) → first ≡ Some product
        → product.granule ≡ first_granule) → ((others : List Product) → rest ≡ Some others → AreFirst others)
        → (first >>= λ product. (rest >>= λ others. Some (product ∷ others))) ≡ Some products → AreFirst products
    next None rest one_is others_are h = absurd (cc)
    next (Some product) None one_is others_are h = absurd (cc)
    next (Some product) (Some others) one_is others_are h =
        subst AreFirst (if_some true _ _ h) (All-cons (λ (product : Product). product.granule
        ≡ first_granule) product others (one_is product refl) (others_are others refl))

-- the version, limit, and products of a set-up that was read from all its members
members_at : (version : ℕ) (limit requirement : Option ℕ) (operator : Option (List ℕ))
    (products : Option (List Product)) (bidders : Option (List Bidder))
    (count : Bool) (setup : SetupFields)
    → (limit >>= λ limit.
    (requirement >>= λ requirement. (operator >>= λ operator. (products >>= λ products. (bidders >>= λ bidders.
    if count then Some (record {
      version = version;
      limit = limit;
      requirement = requirement;
      operator = operator;
      products = products;
      bidders = bidders;
    })
    else None)))))
    ≡ Some setup → (version ≡ setup.version) × (limit ≡ Some setup.limit) × (products ≡ Some setup.products)
members_at version None requirement operator products bidders count setup h = absurd (cc)
members_at version (Some limit) None operator products bidders count setup h = absurd (cc)
members_at version (Some limit) (Some requirement) None products bidders count setup h = absurd (cc)
members_at version (Some limit) (Some requirement) (Some operator) None bidders count setup h = absurd (cc)
members_at version (Some limit) (Some requirement) (Some operator) (Some products) None count setup h = absurd (cc)
members_at version (Some limit) (Some requirement) (Some operator) (Some products) (Some bidders) count setup h =
    let is = if_some count _ setup h in (
      ap (λ (s : SetupFields). s.version) is,
      ap (λ (s : SetupFields). Some s.limit) is,
      ap (λ (s : SetupFields). Some s.products) is,
    )

-- the products that a value has under "products"
abbrev products_in : Data → ℕ → Option (List Product)
products_in value version = option_and_then (each (product_of version)) (items_at (codes "products") value)

-- the version, limit, and products of a document of the right shape
shape_at : (value : Data) (setup : SetupFields) (number : Option ℕ) → number_at (codes "version") value ≡ number
    → fields_from value ≡ Some setup → (number ≡ Some setup.version) × (added_number setup.version first_limit
    (codes "limit") value ≡ Some setup.limit) × (products_in value setup.version ≡ Some setup.products)
unfolding fields_from
shape_at value setup None is h =
    absurd (let none : ◌≡◌ {A = Option SetupFields} None (Some setup) = sym (rw is refl) ∙ h in cc)
shape_at value setup (Some version) is h =
    let known =
    members_at version (added_number version first_limit (codes "limit") value) (number_at (codes "requirement") value)
    (text_at (codes "operator") value) (products_in value version) (option_and_then (each bidder_of)
    (items_at (codes "bidders") value)) (has_members (key_count version 5) value) setup (rw is at h) in (
      ap Some known.0,
      subst (λ v. added_number v first_limit (codes "limit") value ≡ Some setup.limit) known.0 known.1,
      subst (λ v. products_in value v ≡ Some setup.products) known.0 known.2,
    )

-- its version is the number under "version"
version_of : (value : Data) (setup : SetupFields) → fields_from value ≡ Some setup
    → number_at (codes "version") value ≡ Some setup.version
version_of value setup h = (shape_at value setup (number_at (codes "version") value) refl h).0

listed : (version : ℕ) (items : Option Items) (products : List Product) → version ≡ 1
    → option_and_then (each (product_of version)) items ≡ Some products → AreFirst products
listed version None products one h = absurd (cc)
listed version (Some items) products one h = first_granules version items products one h

-- in version 1 it has the values of version 1
pub of_first_version : (value : Data) (setup : SetupFields) → fields_from value ≡ Some setup → setup.version ≡ 1
    → IsOfFirstVersion setup
of_first_version value setup h first =
    let shape = shape_at value setup (number_at (codes "version") value) refl h in
    record {
      limit = first_added setup.version setup.limit first_limit (codes "limit") value first shape.1;
      granules = listed setup.version (items_at (codes "products") value) setup.products first shape.2;
    }

-- if that number is 1 or 2, so is its version
pub known_version : (value : Data) (setup : SetupFields) (version : ℕ) → fields_from value ≡ Some setup
    → number_at (codes "version") value ≡ Some version → is_within 1 latest_version version ≡ true
    → IsWithin 1 latest_version setup.version
known_version value setup version shape read within =
    let same : version ≡ setup.version = let both : Some version ≡ Some setup.version =
    sym read ∙ version_of value setup shape in cc in
    subst (IsWithin 1 latest_version) same (within_of_test 1 latest_version version within)
