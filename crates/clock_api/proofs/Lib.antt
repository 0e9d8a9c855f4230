mod RoutePages
mod RouteLaws
mod Examples
