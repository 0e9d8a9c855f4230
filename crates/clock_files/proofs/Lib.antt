mod AuditLaws
mod ListingLaws
