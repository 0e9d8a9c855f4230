-- A document that was read by bytes has the JSON value of its set-up, and this value means the set-up: each key gives
-- its value back, and the limits decide the rest.
use Rattle.std.proofs.Common.{◌≡◌, ℕ, ◌⊎◌, inl, inr, Bool, true, false, ◌==◌, List, [], ◌∷◌, map, All, Option, Some}
use Rattle.std.proofs.Common.{None, Result, Ok, Err, IfOk}
use Rattle.std.proofs.Common.{IfErr, codes, refl, sym, ap, ◌∙◌, subst, arith}
use Rattle.std.specs.Option.{IsSomeAnd}
use Rattle.std.specs.Prelude.{⊤, if◌then◌else◌, OnOk}
use Rattle.std.proofs.lemmas.Bool.{eqb-true}
use Rattle.std.proofs.lemmas.List.Elements.{All-nil, All-head, All-tail}
use Rattle.std.specs.Str.{IsUtf8}
use Rattle.serde_json.specs.Data.{Data, object}
use Rattle.serde_json.specs.Read.{read}
use Rattle.clock_json.specs.Members.{ReadsField}
use Rattle.clock_json.specs.Reading.{Token, Fields, ReadsValue, items_in, found_members}
use Rattle.clock_terms.specs.declared.setup.Product.{Product}
use Rattle.clock_terms.specs.declared.setup.Bidder.{Bidder}
use Rattle.clock_terms.specs.Limits.{SetupFields, IsWithin, IsOfFirstVersion, latest_version, first_granule}
use Rattle.clock_setup.specs.declared.fault.SetupFault.{SetupFault}
use Rattle.clock_setup.specs.declared.fault.SetupFault.TheVariants.{NoMemory}
use Rattle.clock_terms.specs.Faults.{first_fault, unless, IsFirstFault, IsRefusal}
use Rattle.clock_terms.proofs.WithinLaws.{test_of_within}
use Rattle.clock_json.specs.Tree.{each, number_at, ◌>>=◌}
use Rattle.clock_setup.specs.inside.FoundEntries.{NotesField}
use Rattle.clock_setup.specs.SetupShape.{product_of, bidder_of, fields_from}
use Rattle.clock_setup.specs.SetupDocument.{setup_checks, setup_of, document_setup}
use Rattle.clock_json.proofs.JsonLaws.{json_value}
use Rattle.clock_setup.specs.SetupData.{added, product_data, products_data, bidder_data, bidders_data, setup_fields}
use Rattle.clock_setup.specs.SetupData.{setup_data}

-- a number that was read is noted under its key
pub noted : {E : Type 0} (levels : ℕ) (result : Result Unit E) (key : List ℕ) (value : Data) (old new : List Token)
    (before after : Fields) → OnOk result (NotesField key value before after) → ReadsValue 0 old value new
    → OnOk result (ReadsField levels key old before new after)
noted levels (Err stop) key value old new before after notes reads = tt
noted levels (Ok done) key value old new before after notes reads = (
  notes.0,
  notes.1,
  subst (λ found. IsSomeAnd found (λ value. ReadsValue levels old value new)) (sym notes.2)
      (λ depth enough. reads depth (omega arith)),
)

-- products so far, of the version of the next one or none, are products of that version
pub of_common_version : (so_far next : ℕ) (products : List Product) → (so_far ≡ 0 → products ≡ [])
    → (so_far ≡ 0) ⊎ (so_far ≡ next) → map (product_data so_far) products ≡ map (product_data next) products
of_common_version so_far next products empty (inl none) =
    ap (map (product_data so_far)) (empty none) ∙ sym (ap (map (product_data next)) (empty none))
of_common_version so_far next products empty (inr same) = ap (λ v. map (product_data v) products) same

-- if the next product is of version 1, all granules so far are one dollar
pub of_first_version : (so_far next : ℕ) (products : List Product) → (so_far ≡ 0 → products ≡ [])
    → (so_far ≡ 1 → All (λ product. product.granule ≡ first_granule) products)
    → (so_far ≡ 0) ⊎ (so_far ≡ next) → next ≡ 1 → All (λ product. product.granule ≡ first_granule) products
of_first_version so_far next products empty granules (inl none) one = subst (All (λ (product : Product). product.granule
    ≡ first_granule)) (sym (empty none)) (All-nil (λ (product : Product). product.granule ≡ first_granule))
of_first_version so_far next products empty granules (inr same) one = granules (same ∙ one)

-- a list of items, if each item's value means the item
pub each_of : {A : Type 0} (meaning : Data → Option A) (data_of : A → Data) (P : A → Type 0) → ((x : A) → P x
    → meaning (data_of x) ≡ Some x) → (xs : List A) → All P xs → each meaning (items_in (map data_of xs)) ≡ Some xs
each_of meaning data_of P means [] h = refl
each_of meaning data_of P means (x ∷ xs) h = ap (λ o. o >>= λ first.
    (each meaning (items_in (map data_of xs)) >>= λ rest. Some (first ∷ rest))) (means x (All-head P x xs h))
    ∙ ap (λ o. o >>= λ rest. Some (x ∷ rest)) (each_of meaning data_of P means xs (All-tail P x xs h))

first_product : (version : ℕ) (product : Product) → (version == 1) ≡ true → product.granule ≡ first_granule
    → product_of version (product_data version product) ≡ Some product
unfolding product_of
first_product version product is granule = rw (is, granule) refl

later_product : (version : ℕ) (product : Product) → (version == 1) ≡ false
    → product_of version (product_data version product) ≡ Some product
unfolding product_of
later_product version product is = rw is refl

bidder_is : (bidder : Bidder) → bidder_of (bidder_data bidder) ≡ Some bidder
unfolding bidder_of
bidder_is bidder = refl

bidders_are : (bidders : List Bidder) → each bidder_of (items_in (map bidder_data bidders)) ≡ Some bidders
bidders_are bidders = each_of bidder_of bidder_data (λ _. ⊤) (λ bidder _. bidder_is bidder) bidders (λ k d lt. tt)

abbrev object_of : SetupFields → Option ℕ → Data
object_of setup limit = object (found_members (setup_fields (Some (bidders_data setup.bidders)) limit (Some
    setup.operator) (Some (products_data setup.version setup.products)) (Some setup.requirement) (Some setup.version)))

first_setup : (setup : SetupFields) → (setup.version == 1) ≡ true → IsOfFirstVersion setup
    → fields_from (object_of setup None) ≡ Some setup
unfolding fields_from
first_setup setup is first =
    let products : each (product_of setup.version) (items_in (map (product_data setup.version) setup.products))
    ≡ Some setup.products =
    each_of (product_of setup.version) (product_data setup.version) (λ product. product.granule ≡ first_granule)
    (λ product granule. first_product setup.version product is granule) setup.products first.granules in
    rw (is, products, bidders_are setup.bidders, first.limit) refl

later_setup : (setup : SetupFields) → (setup.version == 1) ≡ false
    → fields_from (object_of setup (Some setup.limit)) ≡ Some setup
unfolding fields_from
later_setup setup is =
    let products : each (product_of setup.version) (items_in (map (product_data setup.version) setup.products))
    ≡ Some setup.products = each_of (product_of setup.version) (product_data setup.version) (λ _. ⊤)
    (λ product _. later_product setup.version product is) setup.products (λ k d lt. tt) in
    rw (is, products, bidders_are setup.bidders) refl

setup_at : (setup : SetupFields) (first : Bool) → (setup.version == 1) ≡ first → (first ≡ true → IsOfFirstVersion setup)
    → fields_from (setup_data setup) ≡ Some setup
setup_at setup true is h =
    ap (λ b. fields_from (object_of setup (if b then None else Some setup.limit))) is ∙ first_setup setup is (h refl)
setup_at setup false is h =
    ap (λ b. fields_from (object_of setup (if b then None else Some setup.limit))) is ∙ later_setup setup is

-- the value of a set-up has the shape of this set-up
pub setup_is : (setup : SetupFields) → (setup.version ≡ 1 → IsOfFirstVersion setup)
    → fields_from (setup_data setup) ≡ Some setup
setup_is setup first = setup_at setup (setup.version == 1) refl (λ is. first (eqb-true setup.version 1 is))

version_in : (setup : SetupFields) (limit : Option ℕ)
    → number_at (codes "version") (object_of setup limit) ≡ Some setup.version
version_in setup None = refl
version_in setup (Some limit) = refl

-- for a set-up of version 1 or 2, only the limits decide what its value means
pub setup_judged : (setup : SetupFields) → IsWithin 1 latest_version setup.version → (setup.version ≡ 1
    → IsOfFirstVersion setup) → setup_of (setup_data setup) ≡ unless (first_fault (setup_checks setup)) setup
unfolding setup_of
setup_judged setup within first =
    let version : number_at (codes "version") (setup_data setup) ≡ Some setup.version =
    version_in setup (added setup.version setup.limit) in
    rw (version, test_of_within 1 latest_version setup.version within, setup_is setup first) refl

-- and what a document with this value means
pub document_is : (bytes : List ℕ) (setup : SetupFields) → IsUtf8 bytes → read bytes ≡ Some (setup_data setup)
    → document_setup bytes ≡ setup_of (setup_data setup)
unfolding document_setup
document_is bytes setup text is = rw (json_value bytes (setup_data setup) text is) refl

-- if a check of the limits returns a set-up, the value means it
pub judged_ok : (answer : Result SetupFields SetupFault) (setup : SetupFields) (result : Result SetupFields SetupFault)
    → answer ≡ unless (first_fault (setup_checks setup)) setup → IfOk result (λ same. same ≡ setup)
    → IfOk result (λ _. first_fault (setup_checks setup) ≡ None) → IfOk result (λ known. answer ≡ Ok known)
judged_ok answer setup (Err fault) is same none = tt
judged_ok answer setup (Ok known) is same none = is ∙ ap (λ fault. unless fault setup) none ∙ ap Ok (sym same)

-- if it returns a first fault, the value is refused for this fault
pub judged_err : (answer : Result SetupFields SetupFault) (setup : SetupFields) (result : Result SetupFields SetupFault)
    → answer ≡ unless (first_fault (setup_checks setup)) setup
    → IfErr result (IsFirstFault NoMemory (first_fault (setup_checks setup))) → IfErr result (IsRefusal NoMemory answer)
judged_err answer setup (Ok known) is first = tt
judged_err answer setup (Err fault) is first = λ known. is ∙ ap (λ fault. unless fault setup) (first known)
