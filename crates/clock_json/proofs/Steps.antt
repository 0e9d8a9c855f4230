-- Laws of reading: a list item by item, an object member by member, and the whole text.
use Rattle.std.proofs.Common.{◌≡◌, ℕ, zero, suc, ◌-◌, ◌<◌, ◌≤◌, ◌^◌, true, List, [], ◌∷◌, ◌++◌, length, decimal, map}
use Rattle.std.proofs.Common.{replicate, Option, Some, None, refl, sym, ap}
use Rattle.std.proofs.Common.{◌∙◌, subst, arith, Bool, false, not, ◌||◌, ◌+◌, drop, get_or}
use Rattle.std.specs.Option.{IsSomeAnd}
use Rattle.std.proofs.lemmas.Bool.{true≢false, false≢true}
use Rattle.std.proofs.lemmas.List.{append-nil, append_assoc}
use Rattle.json.specs.Token.{Token}
use Rattle.json.specs.Lex.{lex, between, class, tokens, punctuate, fresh}
use Rattle.json.specs.Align.{is_blank}
use Rattle.json.specs.Json as json
use Rattle.json.specs.Json.{after_end_array, read_key, parse_map}
use Rattle.json.proofs.Grammar.{left, skip_value-shorter, value_is}
use Rattle.serde_json.specs.Data.{Data, Items, item, array, object, string, null, Members, no_members, put}
use Rattle.serde_json.specs.Read.{of_json, converted, read}
use Rattle.serde_json.proofs.Numbers.{number_of-decimal}
use Rattle.clock_json.specs.Reading.{whole_number, items_before, items_in, Fields, found_members, ReadsValue, ReadsAll}
use Rattle.clock_json.specs.Members.{value_at, with_field, is_field, ReadsField}
use Rattle.clock_json.specs.inside.Reading.{HasItems, HasMembers}
use Rattle.clock_json.proofs.Turns.{converted_some, item_read, items_over, member_read, members_over, object_read}
use Rattle.clock_json.proofs.Turns.{array_read, last, last_read}
use Rattle.clock_json.proofs.FieldLaws.{put_in}
use Rattle.clock_json.proofs.LexLaws.{space_at, at_end}

-- ---- single values

pub number_reads : (n : ℕ) (old new : List Token) → n < 2 ^ 64 → old ≡ Token.number (decimal n) ∷ new
    → ReadsValue 0 old (whole_number n) new
number_reads n old new small is =
    λ depth _. ap (converted of_json) (ap (json.value depth) is ∙ value_is depth _) ∙ rw (number_of-decimal n small)

pub text_reads : (s : List ℕ) (old new : List Token) → old ≡ Token.string s ∷ new → ReadsValue 0 old (string s) new
text_reads s old new is = λ depth _. ap (converted of_json) (ap (json.value depth) is ∙ value_is depth _)

pub null_reads : (old new : List Token) → old ≡ Token.null ∷ new → ReadsValue 0 old null new
null_reads old new is = λ depth _. ap (converted of_json) (ap (json.value depth) is ∙ value_is depth _)

-- a value that reads at few levels reads at more
pub reads_deeper : (few levels : ℕ) (old : List Token) (d : Data) (new : List Token) → few ≤ levels
    → ReadsValue few old d new → ReadsValue levels old d new
reads_deeper few levels old d new h reads = λ depth enough. reads depth (omega (arith, h, enough))

-- a value takes at least one token
pub reads_shorter : (levels : ℕ) (old : List Token) (d : Data) (new : List Token) → ReadsValue levels old d new
    → length new < length old
reads_shorter levels old d new reads =
    let j = converted_some of_json (json.value levels old) d new (reads levels (omega arith)) in
    skip_value-shorter levels old new (ap left j.1)

never : {P : Type 0} (j : json.Json) (r : List Token) → ◌≡◌ {A = Option (json.Json × List Token)} None (Some (j, r)) → P
never j r e = absurd (cc)

not_closed : (depth : ℕ) (old : List Token) (j : json.Json) (r : List Token) → json.value depth old ≡ Some (j, r)
    → after_end_array old ≡ None
not_closed depth [] j r e = refl
not_closed depth (Token.begin_object ∷ ts) j r e = refl
not_closed depth (Token.end_object ∷ ts) j r e = refl
not_closed depth (Token.begin_array ∷ ts) j r e = refl
not_closed depth (Token.end_array ∷ ts) j r e = never j r (sym (value_is depth (Token.end_array ∷ ts)) ∙ e)
not_closed depth (Token.key s ∷ ts) j r e = refl
not_closed depth (Token.string s ∷ ts) j r e = refl
not_closed depth (Token.number s ∷ ts) j r e = refl
not_closed depth (Token.boolean b ∷ ts) j r e = refl
not_closed depth (Token.null ∷ ts) j r e = refl
not_closed depth (Token.bad ∷ ts) j r e = refl

reads_open : (levels : ℕ) (old : List Token) (d : Data) (new : List Token) → ReadsValue levels old d new
    → after_end_array old ≡ None
reads_open levels old d new reads =
    let j = converted_some of_json (json.value levels old) d new (reads levels (omega arith)) in
    not_closed levels old j.0 new j.1

-- ---- lists

none_before : (r : Option (Items × List Token)) → r ≡ parse_map (items_before []) r
none_before None = refl
none_before (Some p) = refl

items_push : (values : List Data) (d : Data) (rest : Items)
    → items_before values (item d rest) ≡ items_before (values ++ d ∷ []) rest
items_push [] d rest = refl
items_push (v ∷ values) d rest = ap (item v) (items_push values d rest)

one_more : (values : List Data) (d : Data) (r : Option (Items × List Token))
    → parse_map (items_before values) (parse_map (item d) r) ≡ parse_map (items_before (values ++ d ∷ [])) r
one_more values d None = refl
one_more values d (Some p) = ap (λ ds. Some (ds, p.1)) (items_push values d p.0)

pub items_start : (levels : ℕ) (old : List Token) → HasItems levels old [] old
unfolding HasItems
items_start levels old = (length old, omega arith, λ depth _. none_before _)

pub items_next : (levels : ℕ) (start old new : List Token) (values : List Data) (d : Data)
    → HasItems levels start values old → ReadsValue levels old d new → HasItems levels start (values ++ d ∷ []) new
unfolding HasItems
items_next levels start old new values d has reads =
    let shorter = reads_shorter levels old d new reads in (
      has.0 - 1,
      omega (arith, has.1, shorter),
      λ depth enough. has.2 depth enough ∙ ap (parse_map (items_before values))
          (item_read (json.value depth) has.0 old new d (omega (arith, has.1, shorter))
          (reads_open levels old d new reads) (reads depth enough)) ∙ one_more values d _,
    )

map-push : {A : Type 0} (f : A → Data) (xs : List A) (x : A) → map f (xs ++ x ∷ []) ≡ map f xs ++ f x ∷ []
map-push f [] x = refl
map-push f (y ∷ xs) x = ap (λ r. f y ∷ r) (map-push f xs x)

map-append : {A : Type 0} (f : A → Data) (xs ys : List A) → map f (xs ++ ys) ≡ map f xs ++ map f ys
map-append f [] ys = refl
map-append f (x ∷ xs) ys = ap (λ r. f x ∷ r) (map-append f xs ys)

-- one item more of a list of values of one kind
pub items_push_next : {A : Type 0} (levels : ℕ) (data_of : A → Data) (start old new : List Token) (xs : List A) (x : A)
    → HasItems levels start (map data_of xs) old
    → ReadsValue levels old (data_of x) new → HasItems levels start (map data_of (xs ++ x ∷ [])) new
items_push_next levels data_of start old new xs x has reads = subst (λ values. HasItems levels start values new)
    (sym (map-push data_of xs x)) (items_next levels start old new (map data_of xs) (data_of x) has reads)

pub items_end : (levels : ℕ) (first start old new : List Token) (values : List Data) → first ≡ Token.begin_array ∷ start
    → HasItems levels start values old → old ≡ Token.end_array ∷ new
    → ReadsValue (suc levels) first (array (items_in values)) new
unfolding HasItems
items_end levels first start old new values opened has closed = λ depth enough.
    let less : suc (depth - 1) ≡ depth = omega (arith, enough) in
    let inside = has.2 (depth - 1) (omega (arith, enough)) ∙ ap (parse_map (items_before values))
    (items_over (json.value (depth - 1)) has.0 old new has.1 (ap after_end_array closed)) in
    subst (λ n. converted of_json (json.value n first) ≡ Some (array (items_in values), new)) less
    (array_read (depth - 1) first start new (items_in values) opened inside)

-- ---- values one after the other

-- one value more
pub all_next : (levels : ℕ) (old here new : List Token) (values : List Data) (d : Data)
    → ReadsAll levels old values here → ReadsValue levels here d new → ReadsAll levels old (values ++ d ∷ []) new
unfolding ReadsAll
all_next levels old here new [] d all reads = (new, subst (λ ts. ReadsValue levels ts d new) all reads, refl)
all_next levels old here new (value ∷ values) d all reads =
    (all.0, all.1, all_next levels all.0 here new values d all.2 reads)

-- one more of one kind
pub all_push_next : {A : Type 0} (levels : ℕ) (data_of : A → Data) (old here new : List Token) (xs : List A) (x : A)
    → ReadsAll levels old (map data_of xs) here → ReadsValue levels here (data_of x) new
    → ReadsAll levels old (map data_of (xs ++ x ∷ [])) new
all_push_next levels data_of old here new xs x all reads = subst (λ values. ReadsAll levels old values new)
    (sym (map-push data_of xs x)) (all_next levels old here new (map data_of xs) (data_of x) all reads)

-- they take tokens
pub all_shorter : (levels : ℕ) (old : List Token) (values : List Data) (new : List Token)
    → ReadsAll levels old values new → length new ≤ length old
unfolding ReadsAll
all_shorter levels old [] new all = omega (arith, ap length all)
all_shorter levels old (d ∷ values) new all =
    omega (arith, reads_shorter levels old d all.0 all.1, all_shorter levels all.0 values new all.2)

-- all of them are items of their list
pub items_all : (levels : ℕ) (start old new : List Token) (values more : List Data) → HasItems levels start values old
    → ReadsAll levels old more new → HasItems levels start (values ++ more) new
unfolding ReadsAll
items_all levels start old new values [] has all = subst (λ list. HasItems levels start list new)
    (sym (append-nil values)) (subst (λ ts. HasItems levels start values ts) (sym all) has)
items_all levels start old new values (d ∷ more) has all =
    subst (λ list. HasItems levels start list new) (append_assoc values (d ∷ []) more) (items_all levels start all.0 new
    (values ++ d ∷ []) more (items_next levels start old all.0 values d has all.1) all.2)

-- all of them are of one kind
pub items_push_all : {A : Type 0} (levels : ℕ) (data_of : A → Data) (start old new : List Token) (xs more : List A)
    → HasItems levels start (map data_of xs) old → ReadsAll levels old (map data_of more) new
    → HasItems levels start (map data_of (xs ++ more)) new
items_push_all levels data_of start old new xs more has all =
    subst (λ values. HasItems levels start values new) (sym (map-append data_of xs more))
    (items_all levels start old new (map data_of xs) (map data_of more) has all)

map-replicate : {A : Type 0} (f : A → Data) (n : ℕ) (x : A) → map f (replicate n x) ≡ replicate n (f x)
map-replicate f zero x = refl
map-replicate f (suc n) x = ap (λ r. f x ∷ r) (map-replicate f n x)

-- all of them are the same
pub items_push_same : {A : Type 0} (levels : ℕ) (data_of : A → Data) (start old new : List Token) (xs : List A) (x : A)
    (count : ℕ) → HasItems levels start (map data_of xs) old → ReadsAll levels old (replicate count (data_of x)) new
    → HasItems levels start (map data_of (xs ++ replicate count x)) new
items_push_same levels data_of start old new xs x count has all =
    items_push_all levels data_of start old new xs (replicate count x) has
    (subst (λ values. ReadsAll levels old values new) (sym (map-replicate data_of count x)) all)

-- ---- objects

pub members_start : (levels : ℕ) (old : List Token) → HasMembers levels old no_members old
unfolding HasMembers
members_start levels old = (length old, omega arith, λ depth _. refl)

pub members_next : (levels : ℕ) (start old value new : List Token) (found : Members) (name : List ℕ) (d : Data)
    → HasMembers levels start found old → old ≡ Token.key name ∷ value → ReadsValue levels value d new
    → HasMembers levels start (put name d found) new
unfolding HasMembers
members_next levels start old value new found name d has named reads =
    let shorter = reads_shorter levels value d new reads in
    let size : length old ≡ suc (length value) = ap length named in (
      has.0 - 1,
      omega (arith, has.1, shorter, size),
      λ depth enough. has.2 depth enough ∙ member_read (json.value depth) found has.0 name old value new d
          (omega (arith, has.1, size)) (ap read_key named) (reads depth enough),
    )

pub members_end : (levels : ℕ) (first start old new : List Token) (found : Members) → first ≡ Token.begin_object ∷ start
    → HasMembers levels start found old → old ≡ Token.end_object ∷ new
    → ReadsValue (suc levels) first (object found) new
unfolding HasMembers
members_end levels first start old new found opened has closed = λ depth enough.
    let less : suc (depth - 1) ≡ depth = omega (arith, enough) in
    let inside = has.2 (depth - 1) (omega (arith, enough))
    ∙ members_over (json.value (depth - 1)) found has.0 old new has.1 (ap read_key closed) in
    subst (λ n. converted of_json (json.value n first) ≡ Some (object found, new)) less
    (object_read (depth - 1) first start new found opened inside)

-- a member more, whose value was found
found_member : (levels : ℕ) (start old value new : List Token) (key : List ℕ) (before after : Fields)
    (found : Option Data) → HasMembers levels start (found_members before) old → old ≡ Token.key key ∷ value
    → is_field key before ≡ true → after ≡ with_field key found before
    → IsSomeAnd found (λ d. ReadsValue levels value d new) → HasMembers levels start (found_members after) new
found_member levels start old value new key before after None has named known kept reads = absurd reads
found_member levels start old value new key before after (Some d) has named known kept reads =
    subst (λ ms. HasMembers levels start ms new) (put_in key d before known ∙ ap found_members (sym kept))
    (members_next levels start old value new (found_members before) key d has named reads)

-- a member more under one of the keys
pub adds_member : (levels : ℕ) (start old value new : List Token) (key : List ℕ) (before after : Fields)
    → HasMembers levels start (found_members before) old → old ≡ Token.key key ∷ value
    → ReadsField levels key value before new after → HasMembers levels start (found_members after) new
adds_member levels start old value new key before after has named reads =
    found_member levels start old value new key before after (value_at key after) has named reads.0 reads.1 reads.2

-- ---- the whole text

-- one value, and nothing after it
pub text_is : (levels : ℕ) (text : List ℕ) (ts new : List Token) (d : Data) → levels ≤ 127 → ts ≡ tokens text
    → ReadsValue levels ts d new → new ≡ [] → read text ≡ Some d
text_is levels text ts new d enough is reads ended = ap (λ t. last (json.value 127 t)) (sym is)
    ∙ last_read (json.value 127 ts) d (reads 127 enough ∙ ap (λ rest. Some (d, rest)) ended)

-- no token at all
pub blank_is : (text : List ℕ) → lex between text ≡ [] → read text ≡ None
unfolding punctuate
blank_is text blank = ap (λ ls. last (json.value 127 (punctuate fresh ls))) blank ∙ ap last (value_is 127 [])

-- one byte more of a text that has been white space so far
pub blank_more : (bytes : List ℕ) (i : ℕ) (other space : Bool) → i < length bytes
    → space ≡ is_blank (class (get_or bytes i 0)) → (other ≡ false → lex between (drop i bytes) ≡ lex between bytes)
    → other || not space ≡ false → lex between (drop (i + 1) bytes) ≡ lex between bytes
blank_more bytes i false true lt is before none = space_at bytes i lt (sym is) ∙ before refl
blank_more bytes i false false lt is before none = absurd (true≢false none)
blank_more bytes i true space lt is before none = absurd (true≢false none)

-- a text that has been white space to its end
pub all_blank : (bytes : List ℕ) (i : ℕ) (other : Bool) → length bytes ≤ i
    → (other ≡ false → lex between (drop i bytes) ≡ lex between bytes) → not other ≡ true → read bytes ≡ None
all_blank bytes i false past before known = blank_is bytes (sym (before refl) ∙ at_end bytes i past)
all_blank bytes i true past before known = absurd (false≢true known)
