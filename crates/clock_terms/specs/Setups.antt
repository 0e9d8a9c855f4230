-- In contracts, a set-up is the values of its fields.
--     fields_of setup      these values
use Rattle.clock_terms.specs.Limits.{SetupFields}
use Rattle.clock_terms.specs.declared.setup.Setup.TheInside.{Inside}

-- the values of a set-up's fields
abbrev pub fields_of : Inside → SetupFields
fields_of setup = record {
  version = setup.version;
  limit = setup.limit;
  requirement = setup.requirement;
  operator = setup.operator;
  products = setup.products;
  bidders = setup.bidders;
}
